use Rattle.std.proofs.Common.{◌∙◌, ap}
use Rattle.page_state.specs.LayoutView.{layout_of}
use Rattle.ghost_spec.specs.declared.lists.GhostLists.{GhostLists}
use Rattle.ghost_spec.specs.States.{ghost_state}
use Rattle.trace_audit.proofs.poked.world_unlawful.Goals as goal

pub returns : goal.returns
returns g c = record {
  walked = c.lists.result.now;
  walked_is = record {
    layout = ap (λ (x : GhostLists). layout_of x.layout) c.lists.ensures.value ∙ c.in_ok-walked.ensures.layout;
    state = ap ghost_state c.lists.ensures.value ∙ c.in_ok-walked.ensures.state;
  };
  none = c.in-Ok.ensures.legal;
  some = c.in-Ok.ensures.told;
}
