use Rattle.std.proofs.Common.{◌-◌}
use Rattle.page_state.specs.LayoutView.{layout_of}
use Rattle.ghost_spec.specs.States.{contents_in}
use Rattle.free_judge.specs.Asked.{most_needed}
use Rattle.free_judge.proofs.ample.predict_amply.Given as goal

abbrev pub decreases-tries : goal.decreases-tries
decreases-tries l = most_needed (layout_of l.state.layout) (contents_in l.state) l.cpu l.step - l.count
