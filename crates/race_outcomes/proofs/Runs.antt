-- A run of the model whose calls are the steps gives an outcome.
use Rattle.std.proofs.Common.{◌≡◌, ◌≢◌, ℕ, zero, suc, ◌<◌, ◌==◌, Bool, true, false, refl, sym, ap, subst, ◌∙◌, arith, inl, inr, ◌⊎◌, List, [], ◌∷◌, length, map}
use Rattle.std.specs.Prelude.{Option, Some, None, slice_get, slice_set, if◌then◌else◌}
use Rattle.std.proofs.lemmas.List.{length-set}
use Rattle.std.proofs.lemmas.Option.{same_Some}
use Rattle.page_state.proofs.Common.{both, eq-same, eq-self, if-false, if-true}
use Rattle.page_state.specs.Layouts.{Layout}
use Rattle.call_table.specs.declared.reply.Call.{Call}
use Rattle.call_table.specs.declared.reply.Reply.{Reply}
use Rattle.call_table.specs.declared.step.Step.{Step}
use Rattle.reference_model.specs.model.History.{calls_by}
use Rattle.reference_model.specs.model.Run.{Runs}
use Rattle.reference_model.specs.model.State.{Reference}
use Rattle.reference_model.specs.model.Step.{Steps}
use Rattle.race_outcomes.specs.declared.node.Turn.{Turn}
use Rattle.race_outcomes.specs.Laws.{AreTheirs, RunsAreOutcomes, answers_of, is_want}
use Rattle.race_outcomes.specs.Orders.{IsNext, Leads, Makes, Point, first_point, no_replies_yet, model_reply}
use Rattle.race_outcomes.proofs.Orders.{none_length}
use Rattle.race_outcomes.proofs.Told.{call_told}

-- the reply at a place is the step's own
theirs_at : (turns : List Turn) (rs : List Reply) (i : ℕ) (t : Turn) (r : Reply)
    → AreTheirs turns rs
    → slice_get turns i ≡ Some t
    → slice_get rs i ≡ Some r
    → t.wants ≡ is_want r
theirs_at [] rs i t r h e f = absurd (cc)
theirs_at (u ∷ ts) [] i t r h e f = absurd (cc)
theirs_at (u ∷ ts) (q ∷ rs) zero t r h e f =
    let at : u ≡ t = same_Some u t e in
    let told : q ≡ r = same_Some q r f in
    ap (λ (x : Turn). x.wants) (sym at) ∙ h.0 ∙ ap is_want told
theirs_at (u ∷ ts) (q ∷ rs) (suc i) t r h e f = theirs_at ts rs i t r h.1 e f

-- the steps of a CPU that aren't made, with their replies
abbrev pub left_of : ℕ → List Turn → List (Option Reply) → List Reply → List (Step × Reply)
left_of cpu [] told rs = []
left_of cpu (t ∷ ts) [] rs = []
left_of cpu (t ∷ ts) (x ∷ told) [] = []
left_of cpu (t ∷ ts) (None ∷ told) (r ∷ rs) =
    if t.cpu == cpu then (t.step, r) ∷ left_of cpu ts told rs else left_of cpu ts told rs
left_of cpu (t ∷ ts) (Some x ∷ told) (r ∷ rs) = left_of cpu ts told rs

-- what was told are these replies
abbrev AreTold : List (Option Reply) → List Reply → Type 0
AreTold [] rs = Unit {0}
AreTold (x ∷ told) [] = Unit {0}
AreTold (None ∷ told) (r ∷ rs) = AreTold told rs
AreTold (Some x ∷ told) (r ∷ rs) = (x ≡ r) × AreTold told rs

-- the first step of a CPU that isn't made, and what is left behind it
record IsFirst (cpu : ℕ) (turns : List Turn) (told : List (Option Reply)) (rs : List Reply) (step : Step)
    (reply : Reply) (rest : List (Step × Reply)) : Type 0 where
  place : ℕ
  turn : Turn
  next : IsNext turns told place turn
  cpu_is : turn.cpu ≡ cpu
  step_is : turn.step ≡ step
  reply_at : slice_get rs place ≡ Some reply
  own : left_of cpu turns (slice_set told place (Some reply)) rs ≡ rest
  others : (o : ℕ)
      → (cpu == o) ≡ false
      → left_of o turns (slice_set told place (Some reply)) rs ≡ left_of o turns told rs
  still : AreTold told rs → AreTold (slice_set told place (Some reply)) rs

next_later : (t : Turn) (ts : List Turn) (x : Option Reply) (told : List (Option Reply)) (place : ℕ) (turn : Turn)
    → IsNext ts told place turn
    → (t.cpu ≡ turn.cpu → ◌≡◌ {A = Option (Option Reply)} (Some x) (Some None) → ⊥)
    → IsNext (t ∷ ts) (x ∷ told) (suc place) turn
next_later t ts x told place turn n head = record { at = n.at; unmade = n.unmade; before = before }
  where
    before : (j : ℕ) (u : Turn)
        → j < suc place
        → slice_get (t ∷ ts) j ≡ Some u
        → u.cpu ≡ turn.cpu
        → slice_get (x ∷ told) j ≢ Some None
    before zero u less at same e = head (ap (λ (v : Turn). v.cpu) (one t u at) ∙ same) e
      where
        one : (t u : Turn) → ◌≡◌ {A = Option Turn} (Some t) (Some u) → t ≡ u
        one t u at = cc
    before (suc j) u less at same e = n.before j u (omega arith) at same e

heads : (p : Step) (q : Reply) (a : Step) (b : Reply) (xs ys : List (Step × Reply))
    → ◌≡◌ {A = List (Step × Reply)} ((p, q) ∷ xs) ((a, b) ∷ ys)
    → (p ≡ a) × (q ≡ b) × (xs ≡ ys)
heads p q a b xs ys e =
    let first : ◌≡◌ {A = Step × Reply} (p, q) (a, b) = cc in
    (ap (λ (x : Step × Reply). x.0) first, ap (λ (x : Step × Reply). x.1) first, cc)

not_both : (b : Bool) → b ≡ true → b ≡ false → ⊥
not_both b e f = cc

find_first : (cpu : ℕ) (turns : List Turn) (told : List (Option Reply)) (rs : List Reply) (step : Step) (reply : Reply)
    (rest : List (Step × Reply))
    → left_of cpu turns told rs ≡ (step, reply) ∷ rest
    → IsFirst cpu turns told rs step reply rest
find_first cpu [] told rs step reply rest e = absurd (cc)
find_first cpu (t ∷ ts) [] rs step reply rest e = absurd (cc)
find_first cpu (t ∷ ts) (x ∷ told) [] step reply rest e = absurd (cc)
find_first cpu (t ∷ ts) (Some x ∷ told) (r ∷ rs) step reply rest e =
    let f = find_first cpu ts told rs step reply rest e in
    record {
      place = suc f.place;
      turn = f.turn;
      next = next_later t ts (Some x) told f.place f.turn f.next (λ same no. cc);
      cpu_is = f.cpu_is;
      step_is = f.step_is;
      reply_at = f.reply_at;
      own = f.own;
      others = f.others;
      still = λ h. (h.0, f.still h.1);
    }
find_first cpu (t ∷ ts) (None ∷ told) (r ∷ rs) step reply rest e =
    by_own (both (t.cpu == cpu)) (λ h. find_first cpu ts told rs step reply rest h)
  where
    by_own : ((t.cpu == cpu) ≡ true) ⊎ ((t.cpu == cpu) ≡ false)
        → (left_of cpu ts told rs ≡ (step, reply) ∷ rest → IsFirst cpu ts told rs step reply rest)
        → IsFirst cpu (t ∷ ts) (None ∷ told) (r ∷ rs) step reply rest
    by_own (inl own) later =
        let here =
        heads t.step r step reply (left_of cpu ts told rs) rest
        (sym (if-true (t.cpu == cpu) ((t.step, r) ∷ left_of cpu ts told rs) (left_of cpu ts told rs) own)
        ∙ e) in
        let mine = eq-same t.cpu cpu own in
        record {
          place = 0;
          turn = t;
          next = record { at = refl; unmade = refl; before = λ j u less at same. absurd (omega arith) };
          cpu_is = mine;
          step_is = here.0;
          reply_at = ap (λ (x : Reply). Some x) here.1;
          own = here.2;
          others = λ o other.
              let no : (t.cpu == o) ≡ false = subst (λ (k : ℕ). (k == o) ≡ false) (sym mine) other in
              sym (if-false (t.cpu == o) ((t.step, r) ∷ left_of o ts told rs) (left_of o ts told rs) no);
          still = λ h. (sym here.1, h);
        }
    by_own (inr own) later =
        let f =
        later
        (sym (if-false (t.cpu == cpu) ((t.step, r) ∷ left_of cpu ts told rs) (left_of cpu ts told rs) own)
        ∙ e) in
        record {
          place = suc f.place;
          turn = f.turn;
          next =
              next_later t ts None told f.place f.turn f.next
              (λ same no. not_both (t.cpu == cpu)
              (subst (λ (k : ℕ). (t.cpu == k) ≡ true) (same ∙ f.cpu_is) (eq-self t.cpu)) own);
          cpu_is = f.cpu_is;
          step_is = f.step_is;
          reply_at = f.reply_at;
          own =
              if-false (t.cpu == cpu) ((t.step, r) ∷ left_of cpu ts (slice_set told f.place (Some reply)) rs)
              (left_of cpu ts (slice_set told f.place (Some reply)) rs) own
              ∙ f.own;
          others =
              λ o other. ap (λ (xs : List (Step × Reply)). if t.cpu == o then (t.step, r) ∷ xs else xs)
              (f.others o other);
          still = f.still;
        }

-- where nothing is left, all is told
all_told : (turns : List Turn) (told : List (Option Reply)) (rs : List Reply)
    → length told ≡ length turns
    → length rs ≡ length turns
    → AreTold told rs
    → ((cpu : ℕ) → left_of cpu turns told rs ≡ [])
    → told ≡ map Some rs
all_told [] [] [] n m h left = refl
all_told [] (x ∷ told) rs n m h left = absurd (omega arith)
all_told [] [] (r ∷ rs) n m h left = absurd (omega arith)
all_told (t ∷ ts) [] rs n m h left = absurd (omega arith)
all_told (t ∷ ts) (x ∷ told) [] n m h left = absurd (omega arith)
all_told (t ∷ ts) (None ∷ told) (r ∷ rs) n m h left =
    absurd
    (some
    (sym
    (if-true (t.cpu == t.cpu) ((t.step, r) ∷ left_of t.cpu ts told rs) (left_of t.cpu ts told rs)
    (eq-self t.cpu))
    ∙ left t.cpu))
  where
    some : {X : Type 0} {x : X} {xs : List X} → x ∷ xs ≡ [] → ⊥
    some e = cc
all_told (t ∷ ts) (Some x ∷ told) (r ∷ rs) n m h left = let rest =
    all_told ts told rs (omega arith) (omega arith) h.1 left in
    let first = h.0 in
    cc

pub none_left : (cpu : ℕ) (turns : List Turn) (rs : List Reply)
    → left_of cpu turns (no_replies_yet turns) rs ≡ answers_of cpu turns rs
none_left cpu [] rs = refl
none_left cpu (t ∷ ts) [] = refl
none_left cpu (t ∷ ts) (r ∷ rs) =
    ap (λ (xs : List (Step × Reply)). if t.cpu == cpu then (t.step, r) ∷ xs else xs) (none_left cpu ts rs)

none_told_yet : (turns : List Turn) (rs : List Reply) → AreTold (no_replies_yet turns) rs
none_told_yet [] rs = tt
none_told_yet (t ∷ ts) [] = tt
none_told_yet (t ∷ ts) (r ∷ rs) = none_told_yet ts rs

abbrev pub told_by : Call → Step × Reply
told_by c = (c.step, c.reply)

module _ (l : Layout) (turns : List Turn) (rs : List Reply) where
  -- a call of a run, as the step of a list that comes next
  record IsNextCall (c : Call) (cs : List Call) (p : Point) (u : Reference) : Type 0 where
    place : ℕ
    makes : Makes l turns p place (record { state = u; told = slice_set p.told place (Some c.reply) })
    after : (cpu : ℕ) → map told_by (calls_by cpu cs) ≡ left_of cpu turns (slice_set p.told place (Some c.reply)) rs
    still : AreTold p.told rs → AreTold (slice_set p.told place (Some c.reply)) rs

  next_call : (c : Call) (cs : List Call) (p : Point) (u : Reference)
      → AreTheirs turns rs
      → Steps l p.state c u
      → ((cpu : ℕ) → map told_by (calls_by cpu (c ∷ cs)) ≡ left_of cpu turns p.told rs)
      → IsNextCall c cs p u
  next_call c cs p u theirs h left =
      by_first (find_first c.cpu turns p.told rs c.step c.reply (map told_by (calls_by c.cpu cs)) own)
    where
      own : left_of c.cpu turns p.told rs ≡ (c.step, c.reply) ∷ map told_by (calls_by c.cpu cs)
      own =
          sym (left c.cpu)
          ∙ ap (map told_by) (if-true (c.cpu == c.cpu) (c ∷ calls_by c.cpu cs) (calls_by c.cpu cs) (eq-self c.cpu))

      by_first : IsFirst c.cpu turns p.told rs c.step c.reply (map told_by (calls_by c.cpu cs)) → IsNextCall c cs p u
      by_first f = record {
        place = f.place;
        makes = record { turn = f.turn; next = f.next; made = made_at (model_reply l p.state f.turn) so };
        after = λ cpu. by_own cpu (both (c.cpu == cpu));
        still = f.still;
      }
        where
          wants : f.turn.wants ≡ is_want c.reply
          wants = theirs_at turns rs f.place f.turn c.reply theirs f.next.at f.reply_at

          turn_is : (t : Turn)
              → t.cpu ≡ c.cpu
              → t.step ≡ c.step
              → ◌≡◌ {A = Turn} t (record { cpu = c.cpu; step = c.step; wants = t.wants })
          turn_is t a b i = record { cpu = a i; step = b i; wants = t.wants }

          so : ◌≡◌ {A = Reply × Reference} (model_reply l p.state f.turn) (c.reply, u)
          so =
              ap (model_reply l p.state) (turn_is f.turn f.cpu_is f.step_is)
              ∙ call_told l p.state u c f.turn.wants h wants

          made_at : (r : Reply × Reference)
              → ◌≡◌ {A = Reply × Reference} r (c.reply, u)
              → ◌≡◌ {A = Point} (record { state = u; told = slice_set p.told f.place (Some c.reply) })
              (record { state = r.1; told = slice_set p.told f.place (Some r.0) })
          made_at r e =
              subst
              (λ (g : Reply × Reference). ◌≡◌ {A = Point}
              (record { state = u; told = slice_set p.told f.place (Some c.reply) })
              (record { state = g.1; told = slice_set p.told f.place (Some g.0) }))
              (sym e) refl

          by_own : (cpu : ℕ)
              → ((c.cpu == cpu) ≡ true) ⊎ ((c.cpu == cpu) ≡ false)
              → map told_by (calls_by cpu cs) ≡ left_of cpu turns (slice_set p.told f.place (Some c.reply)) rs
          by_own cpu (inl mine) =
              subst
              (λ (k : ℕ). map told_by (calls_by k cs)
              ≡ left_of k turns (slice_set p.told f.place (Some c.reply)) rs)
              (eq-same c.cpu cpu mine) (sym f.own)
          by_own cpu (inr other) =
              ap (map told_by) (sym (if-false (c.cpu == cpu) (c ∷ calls_by cpu cs) (calls_by cpu cs) other)) ∙ left cpu
              ∙ sym (f.others cpu other)

  module _ (t : Reference) (count : length rs ≡ length turns) (theirs : AreTheirs turns rs) where
    along : (log : List Call) (p : Point)
        → Runs (Steps l) p.state log t
        → length p.told ≡ length turns
        → AreTold p.told rs
        → ((cpu : ℕ) → map told_by (calls_by cpu log) ≡ left_of cpu turns p.told rs)
        → (order : List ℕ) × Leads l turns p order (record { state = t; told = map Some rs })
    along [] p h n are left =
        let all = all_told turns p.told rs n count are (λ cpu. sym (left cpu)) in
        ([], same p.state t p.told (map Some rs) h all)
      where
        same : (a b : Reference) (x y : List (Option Reply))
            → a ≡ b
            → x ≡ y
            → ◌≡◌ {A = Point} (record { state = b; told = y }) (record { state = a; told = x })
        same a b x y e f = cc
    along (c ∷ cs) p h n are left =
        let s = next_call c cs p h.0 theirs h.1 left in
        let q : Point = record { state = h.0; told = slice_set p.told s.place (Some c.reply) } in
        let rest = along cs q h.2 (length-set p.told s.place (Some c.reply) ∙ n) (s.still are) s.after in
        (s.place ∷ rest.0, (q, s.makes, rest.1))

pub runs_are_outcomes : RunsAreOutcomes
runs_are_outcomes l s t turns rs log runs calls theirs =
    let g =
    along l turns rs t calls.count theirs log (first_point s turns) runs (none_length turns)
    (none_told_yet turns rs) (λ cpu. calls.each cpu ∙ sym (none_left cpu turns rs)) in
    (g.0, record { end = t; leads = g.1 })
