use Rattle.std.proofs.Common.{◌≡◌, ℕ, ◌+◌, [], ◌∷◌, ◌++◌, length, false, arith, refl, sym, ap, ◌∙◌, subst, ◌<◌, ◌≤◌, le_refl, length-append, get_or-set_other}
use Rattle.std.specs.Prelude.{Bool, Option, Some, IsSome, List, slice_get, slice_index_or, slice_set}
use mathlib.Core.Option.{some, some-injective}
use mathlib.Core.Logic.{dite}
use native.Mathlib.Decide.{ℕ_discrete}
use lib.ListN.{get_elem?}
use Rattle.std.specs.Slots.{slots_items, slots_filled}
use Rattle.part_table.specs.declared.slot.Slot.{Slot}
use Rattle.part_table.specs.Parts.{parts}
use Rattle.std.specs.Vec.{vec_len}
use Rattle.std.specs.Mem.Slots.Ownership.{Filled}
use Rattle.part_table.proofs.Lists.{set_false, get_front, get_last}
use Rattle.part_table.proofs.table_of_parts.collect.Goals as goal

le_le : (a b c : ℕ) → a ≤ b → b ≤ c → a ≤ c
le_le a b c h k = omega arith

-- places before and behind the k-th
above : (k j : ℕ) → k + 1 ≤ j → k ≤ j
above k j le = omega arith

above_ne : (k j : ℕ) → k + 1 ≤ j → j ≡ k → ⊥
above_ne k j le e = omega arith

below : (k j : ℕ) → j < k + 1 → (j ≡ k → ⊥) → j < k
below k j lt ne = omega arith

below_all : (k j n : ℕ) → k ≡ n → j < n → j < k
below_all k j n e lt = omega arith

reaches : (k n : ℕ) → n ≤ k → k ≤ n → k ≡ n
reaches k n a b = omega arith

none_below : (j : ℕ) → j < 0 → ⊥
none_below j lt = omega arith

pub unwrap-part-requires : goal.unwrap-part-requires
unwrap-part-requires g c =
    let k : ℕ = c.loop-k.k in
    let i = c.loop-k.invariant in
    let h = c.requires.home k c.loop-k-test.true in
    let e : c.take.result ≡ Some h.0 =
    some-injective c.take.result (Some h.0)
    (sym c.take.ensures.value ∙ (ap (λ (l : List (Option (Slot g.row.A.Denot))). get_elem? l k) i.0 ∙ h.1)) in
    subst IsSome (sym e) refl

pub loop-k-preserved : goal.loop-k-preserved
loop-k-preserved g c =
    let k : ℕ = c.loop-k.k in
    let i = c.loop-k.invariant in
    let o = c.take.ensures.others in
    let fs : List Bool = slots_filled c.loop-k.closed.slots in
    let xs : List (Slot g.row.A.Denot) = c.loop-k.found.items in
    let y : Slot g.row.A.Denot = c.unwrap-part.result in
    let items : c.push_in_room.new.list.items ≡ xs ++ y ∷ [] = c.push_in_room.ensures.items in
    let long : length xs ≡ k = i.4.0 in (
      o.0 ∙ i.0,
      o.2 ∙ i.1,
      (λ j le lt. ap (λ (l : List Bool). slice_index_or l j false) o.1
          ∙ (get_or-set_other fs k j false false (above_ne k j le) ∙ i.2 j (above k j le) lt)),
      (λ j lt. ap (λ (l : List Bool). slice_index_or l j false) o.1 ∙ dite (ℕ_discrete j k)
          (λ e. ap (λ n. slice_index_or (slice_set fs k false) n false) e ∙ set_false fs k)
          (λ ne. get_or-set_other fs k j false false ne ∙ i.3 j (below k j lt ne))),
      (
        ap (λ (l : List (Slot g.row.A.Denot)). length l) items ∙ (length-append xs (y ∷ []) ∙ ap (λ n. n + 1) long),
        λ j x lt e. ap (λ (l : List (Slot g.row.A.Denot)). slice_get l j) items ∙ dite (ℕ_discrete j k)
            (λ is. let same : Some y ≡ Some x =
            some-injective (Some y) (Some x)
            (ap some (sym c.unwrap-part.ensures)
            ∙ (sym c.take.ensures.value
            ∙ (ap (λ (l : List (Option (Slot g.row.A.Denot))). get_elem? l k) i.0
            ∙ (ap (get_elem? (slots_items c.args.closed.now.slots)) (sym is) ∙ e)))) in
            get_last xs y j (is ∙ sym long) ∙ same)
            (λ ne. get_front xs (y ∷ []) x j (i.4.1 j x (below k j lt ne) e)),
      ),
      c.push_in_room.ensures.len ∙ ap (λ n. n + 1) i.5,
      le_le _ _ _ i.6 c.push_in_room.ensures.room,
    )

pub returns-clause-gives : goal.returns-clause-gives
returns-clause-gives g c =
    let i = c.loop-k.invariant in
    let last : c.loop-k.k ≡ parts = reaches c.loop-k.k parts c.loop-k-test.false c.loop-k.auto.k-end in
    (i.4.0 ∙ last, λ k x lt e. i.4.1 k x (below_all c.loop-k.k k parts last lt) e)

pub loop-k-init : goal.loop-k-init
loop-k-init g c =
    let full : Filled (slots_filled c.args.closed.now.slots) 0 parts =
    subst (λ (n : ℕ). Filled (slots_filled c.args.closed.now.slots) 0 n) c.requires.full.1 c.requires.full.0 in
    let none : vec_len c.args.found ≡ 0 =
    c.args.found.ok.0 ∙ ap (λ (l : List (Slot g.row.A.Denot)). length l) c.requires.room.0 in (
      refl,
      c.requires.full.1,
      full,
      (λ j lt. absurd (none_below j lt)),
      (ap (λ (l : List (Slot g.row.A.Denot)). length l) c.requires.room.0, λ j x lt e. absurd (none_below j lt)),
      none,
      c.requires.room.1,
    )

pub take-requires : goal.take-requires
take-requires g c =
    let i = c.loop-k.invariant in
    let k : ℕ = c.loop-k.k in
    (subst (λ (n : ℕ). k < n) (sym i.1) c.loop-k-test.true, i.2 k (le_refl k) c.loop-k-test.true)
