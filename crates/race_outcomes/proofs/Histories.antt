-- An outcome is that of a run of the model.
use Rattle.std.proofs.Common.{◌≡◌, ℕ, zero, suc, ◌==◌, Bool, true, false, refl, sym, ap, subst, ◌∙◌, inl, inr, ◌⊎◌, List, [], ◌∷◌, length, map}
use Rattle.std.specs.Prelude.{Option, Some, None, slice_get, slice_set, if◌then◌else◌}
use Rattle.std.proofs.lemmas.Option.{same_Some}
use Rattle.page_state.proofs.Common.{both, if-false}
use Rattle.page_state.specs.Layouts.{Layout}
use Rattle.call_table.specs.declared.reply.Call.{Call}
use Rattle.call_table.specs.declared.reply.Reply.{Reply}
use Rattle.call_table.specs.declared.step.Step.{Step}
use Rattle.reference_model.specs.model.History.{calls_by}
use Rattle.reference_model.specs.model.Run.{Runs}
use Rattle.reference_model.specs.model.State.{Reference}
use Rattle.reference_model.specs.model.Step.{Steps}
use Rattle.race_outcomes.specs.declared.node.Turn.{Turn}
use Rattle.race_outcomes.specs.Laws.{OutcomesAreRuns}
use Rattle.race_outcomes.specs.Orders.{IsNext, Leads, Point, first_point, model_reply}
use Rattle.race_outcomes.proofs.Orders.{leads_length, none_length}
use Rattle.race_outcomes.proofs.Places.{apart, next_in}
use Rattle.race_outcomes.proofs.Runs.{left_of, none_left, told_by}
use Rattle.race_outcomes.proofs.Told.{turn_exists}

-- a reply that was told stays

set_other : (ts : List (Option Reply)) (i j : ℕ) (x : Option Reply) (y : Reply)
    → slice_get ts i ≡ Some None
    → slice_get ts j ≡ Some (Some y)
    → slice_get (slice_set ts i x) j ≡ Some (Some y)
set_other [] i j x y e f = absurd (cc)
set_other (t ∷ ts) zero zero x y e f = absurd (no t e f)
  where
    no : (t : Option Reply)
        → ◌≡◌ {A = Option (Option Reply)} (Some t) (Some None)
        → ◌≡◌ {A = Option (Option Reply)} (Some t) (Some (Some y))
        → ⊥
    no t e f = cc
set_other (t ∷ ts) zero (suc j) x y e f = f
set_other (t ∷ ts) (suc i) zero x y e f = f
set_other (t ∷ ts) (suc i) (suc j) x y e f = set_other ts i j x y e f

set_here : (ts : List (Option Reply)) (i : ℕ) (x : Option Reply)
    → slice_get ts i ≡ Some None
    → slice_get (slice_set ts i x) i ≡ Some x
set_here [] i x e = absurd (cc)
set_here (t ∷ ts) zero x e = refl
set_here (t ∷ ts) (suc i) x e = set_here ts i x e

at_all : (rs : List Reply) (i : ℕ) (y : Reply)
    → slice_get (map {B = Option Reply} Some rs) i ≡ Some (Some y)
    → slice_get rs i ≡ Some y
at_all [] i y e = absurd (cc)
at_all (r ∷ rs) zero y e = one r y e
  where
    one : (r y : Reply)
        → ◌≡◌ {A = Option (Option Reply)} (Some (Some r)) (Some (Some y))
        → ◌≡◌ {A = Option Reply} (Some r) (Some y)
    one r y e = cc
at_all (r ∷ rs) (suc i) y e = at_all rs i y e

-- one more in front, where it is a CPU's
abbrev with_answer : Bool → Step × Reply → List (Step × Reply) → List (Step × Reply)
with_answer b a more = if b then a ∷ more else more

-- what is left of a CPU, by the step that is next
left_next : (cpu : ℕ) (turns : List Turn) (told : List (Option Reply)) (rs : List Reply) (place : ℕ) (turn : Turn)
    (y : Reply)
    → IsNext turns told place turn
    → slice_get rs place ≡ Some y
    → left_of cpu turns told rs
    ≡ with_answer (turn.cpu == cpu) (turn.step, y) (left_of cpu turns (slice_set told place (Some y)) rs)
left_next cpu [] told rs place turn y n e = absurd (let f = n.at in cc)
left_next cpu (t ∷ ts) [] rs place turn y n e = absurd (let f = n.unmade in cc)
left_next cpu (t ∷ ts) (x ∷ told) [] place turn y n e = absurd (cc)
left_next cpu (t ∷ ts) (Some x ∷ told) (r ∷ rs) zero turn y n e = absurd (no x n.unmade)
  where
    no : (x : Reply) → ◌≡◌ {A = Option (Option Reply)} (Some (Some x)) (Some None) → ⊥
    no x e = cc
left_next cpu (t ∷ ts) (None ∷ told) (r ∷ rs) zero turn y n e =
    let f : t ≡ turn = same_Some t turn n.at in
    let g : r ≡ y = same_Some r y e in
    ap (λ (u : Turn). with_answer (u.cpu == cpu) (u.step, r) (left_of cpu ts told rs)) f
    ∙ ap (λ (z : Reply). with_answer (turn.cpu == cpu) (turn.step, z) (left_of cpu ts told rs)) g
left_next cpu (t ∷ ts) (Some x ∷ told) (r ∷ rs) (suc place) turn y n e =
    left_next cpu ts told rs place turn y (next_in t ts (Some x) told place turn n) e
left_next cpu (t ∷ ts) (None ∷ told) (r ∷ rs) (suc place) turn y n e =
    by_own (both (t.cpu == cpu)) (left_next cpu ts told rs place turn y (next_in t ts None told place turn n) e)
  where
    by_own : ((t.cpu == cpu) ≡ true) ⊎ ((t.cpu == cpu) ≡ false)
        → left_of cpu ts told rs
        ≡ with_answer (turn.cpu == cpu) (turn.step, y) (left_of cpu ts (slice_set told place (Some y)) rs)
        → ◌≡◌ {A = List (Step × Reply)} (with_answer (t.cpu == cpu) (t.step, r) (left_of cpu ts told rs))
        (with_answer (turn.cpu == cpu) (turn.step, y)
        (with_answer (t.cpu == cpu) (t.step, r) (left_of cpu ts (slice_set told place (Some y)) rs)))
    by_own (inl own) rest =
        let other = apart t ts told place turn cpu n own in
        let old = left_of cpu ts told rs in
        let new = left_of cpu ts (slice_set told place (Some y)) rs in
        let same : old ≡ new = rest ∙ if-false (turn.cpu == cpu) ((turn.step, y) ∷ new) new other in
        rw (own, other) (ap (λ (xs : List (Step × Reply)). (t.step, r) ∷ xs) same)
    by_own (inr own) rest = rw own rest

all_left : (cpu : ℕ) (turns : List Turn) (rs : List Reply) → left_of cpu turns (map Some rs) rs ≡ []
all_left cpu [] rs = refl
all_left cpu (t ∷ ts) [] = refl
all_left cpu (t ∷ ts) (r ∷ rs) = all_left cpu ts rs

map_length : (rs : List Reply) → length (map {B = Option Reply} Some rs) ≡ length rs
map_length [] = refl
map_length (r ∷ rs) = ap suc (map_length rs)

module _ (l : Layout) (turns : List Turn) (rs : List Reply) where
  stays : (order : List ℕ) (p q : Point) (i : ℕ) (y : Reply)
      → Leads l turns p order q
      → slice_get p.told i ≡ Some (Some y)
      → slice_get q.told i ≡ Some (Some y)
  stays [] p q i y h e = ap (λ (x : Point). slice_get x.told i) h ∙ e
  stays (place ∷ more) p q i y h e =
      let r = (model_reply l p.state h.1.turn).0 in
      stays more h.0 q i y h.2
      (ap (λ (x : Point). slice_get x.told i) h.1.made ∙ set_other p.told place i (Some r) y h.1.next.unmade e)

  -- a run along an order, whose calls are what is left of each CPU
  record IsAlong (p : Point) (t : Reference) : Type 0 where
    log : List Call
    runs : Runs (Steps l) p.state log t
    each : (cpu : ℕ) → map told_by (calls_by cpu log) ≡ left_of cpu turns p.told rs

  along : (order : List ℕ) (p : Point) (t : Reference)
      → Leads l turns p order (record { state = t; told = map Some rs })
      → IsAlong p t
  along [] p t h = record {
    log = [];
    runs = ap (λ (x : Point). x.state) (sym h);
    each = λ cpu. sym (ap (λ (x : Point). left_of cpu turns x.told rs) (sym h) ∙ all_left cpu turns rs);
  }
  along (place ∷ more) p t h =
      let m = h.1 in
      let r = model_reply l p.state m.turn in
      let next = along more h.0 t h.2 in
      let one = turn_exists l p.state m.turn in
      let to : h.0.state ≡ r.1 = ap (λ (x : Point). x.state) m.made in
      let there : slice_get rs place ≡ Some r.0 =
      at_all rs place r.0
      (stays more h.0 (record { state = t; told = map Some rs }) place r.0 h.2
      (ap (λ (x : Point). slice_get x.told place) m.made ∙ set_here p.told place (Some r.0) m.next.unmade)) in
      record {
        log = one.call ∷ next.log;
        runs = (h.0.state, subst (λ (x : Reference). Steps l p.state one.call x) (sym to) one.steps, next.runs);
        each = λ cpu.
            let calls = calls_by cpu next.log in
            let left = left_of cpu turns (slice_set p.told place (Some r.0)) rs in
            let rest : map told_by calls ≡ left =
            next.each cpu ∙ ap (λ (x : Point). left_of cpu turns x.told rs) m.made in
            call_first (one.call.cpu == cpu) (m.turn.cpu == cpu) one.call calls (m.turn.step, r.0) left
            (ap (λ (k : ℕ). k == cpu) one.cpu) (told one.call m.turn.step r.0 one.step one.reply) rest
            ∙ sym (left_next cpu turns p.told rs place m.turn r.0 m.next there);
      }
    where
      told : (c : Call) (s : Step) (r : Reply) → c.step ≡ s → c.reply ≡ r → ◌≡◌ {A = Step × Reply} (told_by c) (s, r)
      told c s r e f = cc

      call_first : (a b : Bool) (c : Call) (calls : List Call) (x : Step × Reply) (left : List (Step × Reply))
          → a ≡ b
          → ◌≡◌ {A = Step × Reply} (told_by c) x
          → map told_by calls ≡ left
          → ◌≡◌ {A = List (Step × Reply)} (map told_by (if a then c ∷ calls else calls)) (with_answer b x left)
      call_first true true c calls x left e f g = cc
      call_first false false c calls x left e f g = g
      call_first true false c calls x left e f g = absurd (cc)
      call_first false true c calls x left e f g = absurd (cc)

pub outcomes_are_runs : OutcomesAreRuns
outcomes_are_runs l s turns rs out =
    let g = out.1 in
    let a = along l turns rs out.0 (first_point s turns) g.end g.leads in
    let count : length rs ≡ length turns =
    sym (map_length rs)
    ∙ leads_length l turns out.0 (first_point s turns) (record { state = g.end; told = map Some rs }) g.leads
    ∙ none_length turns in
    (a.log, g.end, a.runs, record { count = count; each = λ cpu. a.each cpu ∙ none_left cpu turns rs })
