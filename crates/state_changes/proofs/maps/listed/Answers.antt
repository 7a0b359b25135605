use Rattle.std.proofs.Common.{◌∙◌, ap, sym, subst}
use Rattle.page_state.specs.Entries.{advance_target}
use Rattle.run_list.specs.Runs.{AreInReach, IsCoarsest}
use Rattle.run_list.specs.Targets.{HasFrameBelow}
use Rattle.state_changes.specs.Lists.{list_runs}
use Rattle.state_changes.proofs.Lists.{coarsest_listed, reach_listed}
use Rattle.state_changes.proofs.maps.listed.Goals as goal

pub of-requires-clause-coarsest : goal.of-requires-clause-coarsest
of-requires-clause-coarsest c =
    subst (IsCoarsest advance_target) (sym (c.in_ok-list.ensures ∙ ap list_runs c.as_slice.ensures.value))
    (coarsest_listed c.args.tree.now.runs.items c.requires.coarsest)

pub of-requires-clause-reach : goal.of-requires-clause-reach
of-requires-clause-reach c =
    subst (AreInReach HasFrameBelow) (sym (c.in_ok-list.ensures ∙ ap list_runs c.as_slice.ensures.value))
    (reach_listed c.args.tree.now.runs.items c.requires.small)
