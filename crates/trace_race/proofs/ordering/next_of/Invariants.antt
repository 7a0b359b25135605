use Rattle.std.proofs.Common.{◌≡◌}
use Rattle.trace_race.specs.Ordered.{own_from}
use Rattle.trace_race.proofs.ordering.next_of.Given as goal

abbrev pub invariant-loop-place : goal.invariant-loop-place
invariant-loop-place l = own_from l.cpu l.place l.steps l.replies ≡ own_from l.cpu l.from l.steps l.replies
