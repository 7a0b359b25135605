use Rattle.std.proofs.Common.{◌∙◌, ap, sym, subst}
use Rattle.page_state.specs.Runs.{IsCoarsest}
use Rattle.ghost_trees.specs.Small.{AreSmall}
use Rattle.maplets.specs.View.{target_runs}
use Rattle.maplets.proofs.TargetRuns.{coarsest_targets}
use Rattle.c_trees.proofs.Lists.{small_list}
use Rattle.c_trees.proofs.entries.entries.Goals as goal

pub returns-clause-coarsest : goal.returns-clause-coarsest
returns-clause-coarsest c =
    subst IsCoarsest (sym (c.in_ok-runs.ensures ∙ ap target_runs c.runs-all.ensures.runs))
    (coarsest_targets c.in_ok-found.found.runs c.runs-all.ensures.coarsest)

pub returns-clause-small : goal.returns-clause-small
returns-clause-small c =
    subst AreSmall (sym (c.in_ok-runs.ensures ∙ ap target_runs c.runs-all.ensures.runs))
    (small_list c.in_ok-found.found.runs c.runs-all.ensures.reach)
