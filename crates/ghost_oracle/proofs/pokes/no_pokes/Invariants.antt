use Rattle.std.proofs.Common.{◌≡◌, replicate, None}
use Rattle.ghost_oracle.proofs.pokes.no_pokes.Given as goal

abbrev pub invariant-loop : goal.invariant-loop
invariant-loop g l = l.poked.items ≡ replicate l.counter None
