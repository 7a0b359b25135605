use Rattle.std.proofs.Common.{arith}
use Rattle.run_list.specs.Runs.{run_map}
use Rattle.walked_tables.specs.Values.{advance_said}
use Rattle.image_trees.specs.Records.{records_in}
use Rattle.image_trees.proofs.Stated.{behind-next, more_stated, reached-at}
use Rattle.image_trees.proofs.records.with_states.Goals as goal

pub add_run-requires-clause-run : goal.add_run-requires-clause-run
add_run-requires-clause-run g c = reached-at c.args.runs.now c.loop-i.i _ c.loop-i-test.true c.requires.reach

pub loop-i-preserved : goal.loop-i-preserved
loop-i-preserved g c = record {
  room = omega (arith, c.add_run.auto.buffer, c.loop-i.invariant.room);
  map =
      λ all e. more_stated
      (records_in all c.args.segments.now c.args.records.now) c.args.tree c.args.runs.now c.loop-i.i _
      (run_map advance_said c.loop-i.out.items)
      (run_map advance_said c.add_run.new.out.items) c.requires.coarsest c.loop-i-test.true
      (c.loop-i.invariant.map all e) (c.in_ok-add_run.ensures.map all e);
  kept = c.in_ok-add_run.ensures.kept;
  behind =
      λ d less. behind-next c.args.runs.now c.loop-i.i _ d c.add_run.new.out.items c.requires.coarsest
      less c.in_ok-add_run.ensures.behind;
}
