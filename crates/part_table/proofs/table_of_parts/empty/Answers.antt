use Rattle.std.proofs.Common.{◌≡◌, ℕ, ◌+◌, false, arith, ap, ◌∙◌, subst, sym, ◌<◌, ◌≤◌, le_refl, get_or-set_other}
use Rattle.std.specs.Prelude.{Bool, List, slice_index_or, slice_set}
use mathlib.Core.Logic.{dite}
use native.Mathlib.Decide.{ℕ_discrete}
use Rattle.std.specs.Slots.{slots_filled}
use Rattle.std.specs.Mem.Slots.Ownership.{Filled}
use Rattle.part_table.specs.Parts.{parts}
use Rattle.part_table.specs.Endings.{emptied_to}
use Rattle.part_table.proofs.Lists.{set_false}
use Rattle.part_table.proofs.table_of_parts.empty.Goals as goal

-- places before and behind the k-th
above : (k j : ℕ) → k + 1 ≤ j → k ≤ j
above k j le = omega arith

above_ne : (k j : ℕ) → k + 1 ≤ j → j ≡ k → ⊥
above_ne k j le e = omega arith

below : (k j : ℕ) → j < k + 1 → (j ≡ k → ⊥) → j < k
below k j lt ne = omega arith

reaches : (k n : ℕ) → n ≤ k → k ≤ n → k ≡ n
reaches k n a b = omega arith

none_below : (j : ℕ) → j < 0 → ⊥
none_below j lt = omega arith

pub take-requires : goal.take-requires
take-requires g c =
    let i = c.loop-k.invariant in
    let k : ℕ = c.loop-k.k in
    (subst (λ (n : ℕ). k < n) (sym i.0) c.loop-k-test.true, i.1 k (le_refl k) c.loop-k-test.true)

pub loop-k-init : goal.loop-k-init
loop-k-init g c =
    let full : Filled (slots_filled c.args.closed.now.slots) 0 parts =
    subst (λ (n : ℕ). Filled (slots_filled c.args.closed.now.slots) 0 n) c.requires.1 c.requires.0 in
    (c.requires.1, full, λ j lt. absurd (none_below j lt))

pub loop-k-preserved : goal.loop-k-preserved
loop-k-preserved g c =
    let k : ℕ = c.loop-k.k in
    let i = c.loop-k.invariant in
    let o = c.take.ensures.others in
    let fs : List Bool = slots_filled c.loop-k.closed.slots in (
      o.2 ∙ i.0,
      (λ j le lt. ap (λ (l : List Bool). slice_index_or l j false) o.1
          ∙ (get_or-set_other fs k j false false (above_ne k j le) ∙ i.1 j (above k j le) lt)),
      (λ j lt. ap (λ (l : List Bool). slice_index_or l j false) o.1 ∙ dite (ℕ_discrete j k)
          (λ e. ap (λ n. slice_index_or (slice_set fs k false) n false) e ∙ set_false fs k)
          (λ ne. get_or-set_other fs k j false false ne ∙ i.2 j (below k j lt ne))),
    )

pub returns : goal.returns
returns g c =
    let i = c.loop-k.invariant in
    let last : c.loop-k.k ≡ parts = reaches c.loop-k.k parts c.loop-k-test.false c.loop-k.auto.k-end in
    (i.0, subst (λ (k : ℕ). emptied_to k (slots_filled c.loop-k.closed.slots)) last i.2)
