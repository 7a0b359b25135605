-- How many steps an order has.
use Rattle.std.proofs.Common.{◌≡◌, ℕ, zero, suc, ◌+◌, ◌≤◌, refl, ap, ◌∙◌, arith, List, [], ◌∷◌, length, map}
use Rattle.std.specs.Prelude.{Option, Some, None, slice_get, slice_set}
use Rattle.page_state.specs.Layouts.{Layout}
use Rattle.reference_model.specs.model.State.{Reference}
use Rattle.call_table.specs.declared.reply.Reply.{Reply}
use Rattle.race_outcomes.specs.declared.node.Turn.{Turn}
use Rattle.race_outcomes.specs.Orders.{Leads, Point, first_point, no_replies_yet, model_reply}

-- how many steps aren't made
abbrev pub nones : List (Option Reply) → ℕ
nones [] = 0
nones (None ∷ ts) = suc (nones ts)
nones (Some r ∷ ts) = nones ts

nones_set : (ts : List (Option Reply)) (i : ℕ) (r : Reply)
    → slice_get ts i ≡ Some None
    → nones ts ≡ suc (nones (slice_set ts i (Some r)))
nones_set [] i r e = absurd (cc)
nones_set (None ∷ ts) zero r e = refl
nones_set (Some x ∷ ts) zero r e = absurd (apart x e)
  where
    apart : (x : Reply) → ◌≡◌ {A = Option (Option Reply)} (Some (Some x)) (Some None) → ⊥
    apart x e = cc
nones_set (None ∷ ts) (suc i) r e = ap suc (nones_set ts i r e)
nones_set (Some x ∷ ts) (suc i) r e = nones_set ts i r e

nones_first : (turns : List Turn) → nones (no_replies_yet turns) ≡ length turns
nones_first [] = refl
nones_first (t ∷ ts) = ap suc (nones_first ts)

nones_last : (rs : List Reply) → nones (map Some rs) ≡ 0
nones_last [] = refl
nones_last (r ∷ rs) = nones_last rs

module _ (l : Layout) (turns : List Turn) where
  leads_count : (order : List ℕ) (p q : Point) → Leads l turns p order q → nones p.told ≡ length order + nones q.told
  leads_count [] p q h = let e = ap (λ (x : Point). nones x.told) h in omega (arith, e)
  leads_count (place ∷ more) p q h =
      let r = (model_reply l p.state h.1.turn).0 in
      let one = nones_set p.told place r h.1.next.unmade in
      let to = ap (λ (x : Point). nones x.told) h.1.made in
      let rest = leads_count more h.0 q h.2 in
      omega (arith, one, to, rest)

  pub order_count : (order : List ℕ) (p q : Point) (rs : List Reply)
      → p.told ≡ no_replies_yet turns
      → q.told ≡ map Some rs
      → Leads l turns p order q
      → length order ≡ length turns
  order_count order p q rs e f h =
      let n = leads_count order p q h in
      let a = ap nones e ∙ nones_first turns in
      let b = ap nones f ∙ nones_last rs in
      omega (arith, n, a, b)

  -- an order has no more steps than there are
  pub order_few : (s : Reference) (order : List ℕ) (q : Point)
      → Leads l turns (first_point s turns) order q
      → length order ≤ length turns
  order_few s order q h =
      let n = leads_count order (first_point s turns) q h in
      let a = nones_first turns in
      omega (arith, n, a)
