use Rattle.run_list.proofs.Found.{reach_at}
use Rattle.state_changes.proofs.maps.add_row_runs.Goals as goal

pub named-requires : goal.named-requires
named-requires c = (reach_at _ c.loop-run.run-index c.args.runs.now _ c.requires c.loop-run-test.true).pages
