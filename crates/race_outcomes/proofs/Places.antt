-- An order keeps each CPU's own order.
use Rattle.std.proofs.Common.{◌≡◌, ℕ, zero, suc, ◌+◌, ◌==◌, Bool, true, false, refl, sym, ap, ◌∙◌, arith, inl, inr, ◌⊎◌, List, [], ◌∷◌, map, filter}
use Rattle.std.specs.Prelude.{Option, Some, None, slice_get, slice_set, if◌then◌else◌}
use Rattle.std.proofs.lemmas.Option.{same_Some}
use Rattle.page_state.proofs.Common.{both, eq-same, if-false}
use Rattle.page_state.specs.Layouts.{Layout}
use Rattle.call_table.specs.declared.reply.Reply.{Reply}
use Rattle.race_outcomes.specs.declared.node.Turn.{Turn}
use Rattle.race_outcomes.specs.Laws.{OrdersKeep, is_of, places_of}
use Rattle.race_outcomes.specs.Orders.{IsNext, Leads, Point, no_replies_yet, first_point, model_reply}

-- the places of a CPU's steps that aren't made
abbrev unmade_of : ℕ → ℕ → List Turn → List (Option Reply) → List ℕ
unmade_of cpu first [] told = []
unmade_of cpu first (t ∷ ts) [] = []
unmade_of cpu first (t ∷ ts) (None ∷ told) =
    if t.cpu == cpu then first ∷ unmade_of cpu (first + 1) ts told else unmade_of cpu (first + 1) ts told
unmade_of cpu first (t ∷ ts) (Some r ∷ told) = unmade_of cpu (first + 1) ts told

-- one more in front, where it is a CPU's
abbrev with_place : Bool → ℕ → List ℕ → List ℕ
with_place b place more = if b then place ∷ more else more

-- what is next in a list is next behind a step of it
pub next_in : (t : Turn) (ts : List Turn) (x : Option Reply) (told : List (Option Reply)) (place : ℕ) (turn : Turn)
    → IsNext (t ∷ ts) (x ∷ told) (suc place) turn
    → IsNext ts told place turn
next_in t ts x told place turn n =
    record { at = n.at; unmade = n.unmade; before = λ j u less at same. n.before (suc j) u (omega arith) at same }

-- a step of another CPU that isn't made
pub apart : (t : Turn) (ts : List Turn) (told : List (Option Reply)) (place : ℕ) (turn : Turn) (cpu : ℕ)
    → IsNext (t ∷ ts) (None ∷ told) (suc place) turn
    → (t.cpu == cpu) ≡ true
    → (turn.cpu == cpu) ≡ false
apart t ts told place turn cpu n own = by_both (both (turn.cpu == cpu))
  where
    by_both : ((turn.cpu == cpu) ≡ true) ⊎ ((turn.cpu == cpu) ≡ false) → (turn.cpu == cpu) ≡ false
    by_both (inl e) =
        absurd (n.before 0 t (omega arith) refl (eq-same t.cpu cpu own ∙ sym (eq-same turn.cpu cpu e)) refl)
    by_both (inr e) = e

unmade_next : (cpu first : ℕ) (turns : List Turn) (told : List (Option Reply)) (place : ℕ) (turn : Turn) (r : Reply)
    → IsNext turns told place turn
    → unmade_of cpu first turns told
    ≡ with_place (turn.cpu == cpu) (first + place) (unmade_of cpu first turns (slice_set told place (Some r)))
unmade_next cpu first [] told place turn r n = absurd (let e = n.at in cc)
unmade_next cpu first (t ∷ ts) [] place turn r n = absurd (let e = n.unmade in cc)
unmade_next cpu first (t ∷ ts) (None ∷ told) zero turn r n =
    let e : t ≡ turn = same_Some t turn n.at in
    let z : first + 0 ≡ first = omega arith in
    ap
    (λ (u : Turn). if u.cpu == cpu then first ∷ unmade_of cpu (first + 1) ts told
    else unmade_of cpu (first + 1) ts told) e
    ∙ ap (λ k. with_place (turn.cpu == cpu) k (unmade_of cpu (first + 1) ts told)) (sym z)
unmade_next cpu first (t ∷ ts) (Some x ∷ told) zero turn r n = absurd (no x n.unmade)
  where
    no : (x : Reply) → ◌≡◌ {A = Option (Option Reply)} (Some (Some x)) (Some None) → ⊥
    no x e = cc
unmade_next cpu first (t ∷ ts) (Some x ∷ told) (suc place) turn r n =
    let z : first + 1 + place ≡ first + suc place = omega arith in
    unmade_next cpu (first + 1) ts told place turn r (next_in t ts (Some x) told place turn n)
    ∙ ap (λ k. with_place (turn.cpu == cpu) k (unmade_of cpu (first + 1) ts (slice_set told place (Some r)))) z
unmade_next cpu first (t ∷ ts) (None ∷ told) (suc place) turn r n =
    let z : first + 1 + place ≡ first + suc place = omega arith in
    let rest =
    unmade_next cpu (first + 1) ts told place turn r (next_in t ts None told place turn n)
    ∙ ap
    (λ k. with_place (turn.cpu == cpu) k (unmade_of cpu (first + 1) ts (slice_set told place (Some r)))) z
    in
    by_own (both (t.cpu == cpu)) rest
  where
    by_own : ((t.cpu == cpu) ≡ true) ⊎ ((t.cpu == cpu) ≡ false)
        → unmade_of cpu (first + 1) ts told
        ≡ with_place (turn.cpu == cpu) (first + suc place)
        (unmade_of cpu (first + 1) ts (slice_set told place (Some r)))
        → ◌≡◌ {A = List ℕ}
        (if t.cpu == cpu then first ∷ unmade_of cpu (first + 1) ts told else unmade_of cpu (first + 1) ts told)
        (with_place (turn.cpu == cpu) (first + suc place)
        (if t.cpu == cpu then first ∷ unmade_of cpu (first + 1) ts (slice_set told place (Some r))
        else unmade_of cpu (first + 1) ts (slice_set told place (Some r))))
    by_own (inl own) rest =
        let other = apart t ts told place turn cpu n own in
        let old = unmade_of cpu (first + 1) ts told in
        let new = unmade_of cpu (first + 1) ts (slice_set told place (Some r)) in
        let same : old ≡ new = rest ∙ if-false (turn.cpu == cpu) ((first + suc place) ∷ new) new other in
        rw (own, other) (ap (λ (xs : List ℕ). first ∷ xs) same)
    by_own (inr own) rest = rw own rest

none_unmade : (cpu first : ℕ) (turns : List Turn)
    → unmade_of cpu first turns (no_replies_yet turns) ≡ places_of cpu first turns
none_unmade cpu first [] = refl
none_unmade cpu first (t ∷ ts) =
    ap (λ (xs : List ℕ). if t.cpu == cpu then first ∷ xs else xs) (none_unmade cpu (first + 1) ts)

all_made : (cpu first : ℕ) (turns : List Turn) (rs : List Reply) → unmade_of cpu first turns (map Some rs) ≡ []
all_made cpu first [] rs = refl
all_made cpu first (t ∷ ts) [] = refl
all_made cpu first (t ∷ ts) (r ∷ rs) = all_made cpu (first + 1) ts rs

module _ (l : Layout) (turns : List Turn) (cpu : ℕ) where
  kept : (order : List ℕ) (p q : Point)
      → Leads l turns p order q
      → unmade_of cpu 0 turns q.told ≡ []
      → filter (λ i. is_of cpu (slice_get turns i)) order ≡ unmade_of cpu 0 turns p.told
  kept [] p q h e = sym (ap (λ (x : Point). unmade_of cpu 0 turns x.told) (sym h) ∙ e)
  kept (place ∷ more) p q h e =
      let m = h.1 in
      let rest = kept more h.0 q h.2 e in
      let to = ap (λ (x : Point). unmade_of cpu 0 turns x.told) m.made in
      let r = (model_reply l p.state m.turn).0 in
      let here = unmade_next cpu 0 turns p.told place m.turn r m.next in
      let z : 0 + place ≡ place = omega arith in
      ap
      (λ (o : Option Turn). with_place (is_of cpu o) place
      (filter (λ i. is_of cpu (slice_get turns i)) more)) m.next.at
      ∙ ap (with_place (m.turn.cpu == cpu) place) (rest ∙ to)
      ∙ sym
      (here
      ∙ ap (λ k. with_place (m.turn.cpu == cpu) k (unmade_of cpu 0 turns (slice_set p.told place (Some r)))) z)

pub orders_keep : OrdersKeep
orders_keep l s turns order rs g cpu =
    kept l turns cpu order (first_point s turns) (record { state = g.end; told = map Some rs }) g.leads
    (all_made cpu 0 turns rs)
    ∙ none_unmade cpu 0 turns
