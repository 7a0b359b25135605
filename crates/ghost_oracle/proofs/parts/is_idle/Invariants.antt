use Rattle.std.proofs.Common.{◌≡◌, ℕ, ◌<◌, None, get_or}
use Rattle.ghost_oracle.proofs.parts.is_idle.Given as goal

abbrev pub invariant-loop-load : goal.invariant-loop-load
invariant-loop-load l = (i : ℕ) → i < l.load-index → get_or l.loaded i None ≡ None
