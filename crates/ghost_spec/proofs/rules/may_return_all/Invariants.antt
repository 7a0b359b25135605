use Rattle.std.proofs.Common.{◌≡◌, ℕ, ◌+◌, ◌<◌, true}
use Rattle.ghost_spec.specs.Used.{may_return_frame}
use Rattle.ghost_spec.specs.Views.{shared_in_lists}
use Rattle.ghost_spec.proofs.rules.may_return_all.Given as goal

abbrev pub invariant-loop-i : goal.invariant-loop-i
invariant-loop-i l = (j : ℕ) → j < l.i → may_return_frame (shared_in_lists l.shared) (l.pfn + j) ≡ true
