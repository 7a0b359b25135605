use Rattle.std.proofs.Common.{drop}
use Rattle.trace_race.proofs.Ends.{are_of, of_logs, one_history}
use Rattle.trace_race.proofs.OfLogs.{merged_whole}
use Rattle.trace_race.proofs.race_end.ended.Goals as goal

pub shutdown-requires : goal.shutdown-requires
shutdown-requires c = let n = c.args.start in
    record {
      pass = are_of c.args.machine.table (drop n c.args.steps.now)
          (drop n c.args.replies.now) c.args.passes.items c.requires.done;
    }

pub returns-in-Ok-clause-history : goal.returns-in-Ok-clause-history
returns-in-Ok-clause-history c =
    one_history c.args.machine.table c.args.start c.args.steps.now c.args.replies.now c.args.passes.items _ _
    c.requires c.in-Ok.ensures.end

pub returns-in-Ok-clause-of : goal.returns-in-Ok-clause-of
returns-in-Ok-clause-of c =
    of_logs c.args.machine.table c.args.start c.args.steps.now c.args.replies.now c.args.passes.items _ _
    c.requires c.in-Ok.ensures.end c.in-Ok.logs
    (merged_whole c.in-Ok.world.parts c.in-Ok.logs c.args.machine.table.layout c.in-Ok.ensures.layout
    c.in-Ok.ensures.logs.logs c.in-Ok.ensures.end.end)
