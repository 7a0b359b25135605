use Rattle.std.proofs.Common.{◌≡◌, ◌++◌, List, drop}
use Rattle.call_table.specs.declared.reply.Reply.{Reply}
use Rattle.trace_race.proofs.Gathering.{Gathering}
use Rattle.trace_race.proofs.making.gather.Given as goal

abbrev pub invariant-loop-i : goal.invariant-loop-i
invariant-loop-i l =
    (so : List Reply)
    × (l.replies.items ≡ l.fn.replies.items ++ so)
    × Gathering l.steps (drop l.i l.steps) l.done l.cursors.items so
