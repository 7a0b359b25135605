use Rattle.std.proofs.Common.{◌+◌, ◌∙◌, ap, arith}
use Rattle.run_list.specs.Runs.{run_map}
use Rattle.run_list.proofs.Maps.{ends_later}
use Rattle.walked_tables.specs.Values.{advance_said}
use Rattle.image_trees.specs.Records.{records_in, stated}
use Rattle.image_trees.proofs.Stated.{goes-on, more_laid, none_laid, one-more}
use Rattle.image_trees.proofs.records.add_run.Goals as goal

pub loop-k-preserved : goal.loop-k-preserved
loop-k-preserved g c = record {
  room = omega (arith, c.with_state.auto.buffer, c.loop-k.invariant.room);
  map = λ all e.
      let record_of = records_in all c.args.segments.now c.args.records.now in
      more_laid record_of c.args.tree c.args.run c.loop-k.k (run_map advance_said c.args.out.now.items)
      (run_map advance_said c.loop-k.out.items) (run_map advance_said c.add_page.new.runs.items) c.in_ok-value.value
      (c.in_ok-value.ensures.stated all e
      ∙ ap (stated record_of c.args.tree) c.advanced-said.ensures) c.in_ok-add_page.ensures.map
      (c.loop-k.invariant.map all e);
  kept = c.in_ok-add_page.ensures.kept;
  behind =
      ends_later (c.args.run.pages.first.0 + c.loop-k.k + 2)
      (c.args.run.pages.first.0 + (c.loop-k.k + 1) + 1) c.add_page.new.runs.items
      (omega arith) c.in_ok-add_page.ensures.behind;
}
