use Rattle.std.proofs.Common.{◌≡◌, ℕ, ◌+◌, ◌<◌, true}
use Rattle.part_types.specs.View.{shared_of}
use Rattle.reference_model.specs.model.SharedRules.{may_return}
use Rattle.reference_model.specs.model.State.{Cpu}
use Rattle.reference_model.specs.model.Used.{used_alone}
use Rattle.decisions.proofs.calls.give_back.may_return_all.Given as goal

abbrev pub invariant-loop-i : goal.invariant-loop-i
invariant-loop-i g l = (j : ℕ) → j < l.i → (k : Cpu) → may_return (used_alone (shared_of l.shared) k) (l.pfn + j) ≡ true
