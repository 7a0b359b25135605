use Rattle.std.proofs.Common.{◌<◌}
use Rattle.call_table.specs.declared.reply.Call.{Call}
use Rattle.world.specs.inner.Merging.{left, IsNext}
use Rattle.world.proofs.merge.find_next.Given as goal

abbrev pub invariant-loop-cpu : goal.invariant-loop-cpu
invariant-loop-cpu l = (c : Call) → c.cpu < l.cpu → IsNext (left l.histories l.places) c → ⊥
