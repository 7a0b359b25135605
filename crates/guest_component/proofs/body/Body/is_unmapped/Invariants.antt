use Rattle.std.proofs.Common.{◌≡◌, ℕ, ◌<◌, true}
use Rattle.page_state.specs.Blocks.{is_empty}
use Rattle.table_tree.specs.View.{meaning}
use Rattle.guest_component.proofs.body.Body.is_unmapped.Given as goal

abbrev pub invariant-loop-slot : goal.invariant-loop-slot
invariant-loop-slot g l = (j : ℕ) → j < l.slot → is_empty (meaning l.fn.self.map.tree) (l.depth, j) ≡ true
