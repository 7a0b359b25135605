use Rattle.trace_race.proofs.Ends.{all_of, are_of, one_history}
use Rattle.std.proofs.Common.{drop}
use Rattle.trace_race.proofs.race_end.dropped.Goals as goal

pub drop_with-requires : goal.drop_with-requires
drop_with-requires c =
    let n = c.args.start in record {
      pass =
          are_of c.args.machine.table (drop n c.args.steps.now)
          (drop n c.args.replies.now) c.args.passes.items c.requires.done;
      all =
          all_of c.args.machine.table (drop n c.args.steps.now)
          (drop n c.args.replies.now) c.args.passes.items c.requires.done;
    }

pub returns : goal.returns
returns c =
    let e = c.drop_with.ensures in
    one_history c.args.machine.table c.args.start c.args.steps.now c.args.replies.now c.args.passes.items e.0 e.1
    c.requires e.2
