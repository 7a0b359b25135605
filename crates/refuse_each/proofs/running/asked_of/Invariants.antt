use Rattle.std.proofs.Common.{◌<◌, All}
use Rattle.refuse_each.proofs.running.asked_of.Given as goal

abbrev pub invariant-loop-asked : goal.invariant-loop-asked
invariant-loop-asked l = All (λ s. s.0 < l.cpus) l.steps.items
