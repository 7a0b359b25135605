-- What a look at a slot tells of a child.
use Rattle.std.proofs.Common.{◌≡◌, ℕ, zero, suc, ◌+◌, ◌-◌, ◌≤◌, sym, arith}
use Rattle.std.specs.declared.boxed.Box.{Box}
use Rattle.table_tree.specs.declared.table.Table.{Table}
use Rattle.table_tree.specs.declared.table.Slot.{Slot}
use Rattle.table_tree.specs.declared.table.Slot.TheVariants.{Child}
use Rattle.table_tree.specs.Shape.{IsShaped}
use Rattle.table_tree.specs.Changes.{IsSeen}

module _ {A : Type 0} where
  -- a child stands only above the last level
  pub seen_deep : (n i : ℕ) (t : Table A) (s : Slot A) (b : Box (Table A) A)
      → IsSeen i t s
      → s ≡ Child b
      → IsShaped n t
      → 1 ≤ n
  seen_deep zero i t s b h e x = absurd (h.last b e x)
  seen_deep (suc n) i t s b h e x = omega arith

  -- and is a table of a tree
  pub seen_child : (n i : ℕ) (t : Table A) (s : Slot A) (b : Box (Table A) A)
      → IsSeen i t s
      → s ≡ Child b
      → IsShaped n t
      → IsShaped (n - 1) b.value
  seen_child n i t s b h e x = let k : n ≡ n - 1 + 1 = let y = seen_deep n i t s b h e x in
      omega arith in
      (h.child_shape b (n - 1) e (rw (sym k) x))
