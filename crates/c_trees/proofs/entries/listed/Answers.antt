use Rattle.std.proofs.Common.{◌∙◌, ap, sym, subst}
use Rattle.page_state.specs.Entries.{advance_target}
use Rattle.run_list.specs.Runs.{AreInReach, IsCoarsest}
use Rattle.run_list.specs.Targets.{HasFrameBelow}
use Rattle.maplets.specs.View.{target_runs}
use Rattle.c_trees.proofs.Lists.{coarsest_list, reach_list, same_runs}
use Rattle.c_trees.proofs.entries.listed.Goals as goal

pub of-requires-clause-coarsest : goal.of-requires-clause-coarsest
of-requires-clause-coarsest c =
    subst (IsCoarsest advance_target) (sym c.in_ok-list.ensures) (coarsest_list c.args.runs.now c.requires.coarsest)

pub of-requires-clause-reach : goal.of-requires-clause-reach
of-requires-clause-reach c =
    subst (AreInReach HasFrameBelow) (sym c.in_ok-list.ensures) (reach_list c.args.runs.now c.requires.small)

pub returns : goal.returns
returns c = ap target_runs (c.of.ensures ∙ c.in_ok-list.ensures) ∙ same_runs c.args.runs.now
