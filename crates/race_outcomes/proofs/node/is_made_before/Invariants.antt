use Rattle.std.proofs.Common.{◌≡◌, ◌≢◌, ℕ, ◌<◌}
use Rattle.std.specs.Prelude.{Some, None, slice_get}
use Rattle.race_outcomes.specs.declared.node.Turn.{Turn}
use Rattle.race_outcomes.proofs.node.is_made_before.Given as goal

abbrev pub invariant-loop-j : goal.invariant-loop-j
invariant-loop-j l =
    (j : ℕ) (t : Turn) → j < l.j → slice_get l.turns j ≡ Some t → t.cpu ≡ l.cpu → slice_get l.told j ≢ Some None
