use Rattle.std.proofs.Common.{ℕ, ◌<◌}
use Rattle.c_states.specs.Clashes.{IsClash}
use Rattle.c_states.proofs.clash.first_clash.Given as goal

abbrev pub invariant-loop-i : goal.invariant-loop-i
invariant-loop-i g l = (j : ℕ) → j < l.i → IsClash g.T.Clash.clash l.members j → ⊥
