use Rattle.std.proofs.Common.{List, ap, sym, subst, ◌∙◌}
use Rattle.page_state.specs.declared.entry.Run.{Run}
use Rattle.page_state.specs.Runs.{map_of, IsCoarsest}
use Rattle.ghost_coarse.proofs.Behind.{coarsest-left, left-behind}
use Rattle.ghost_coarse.proofs.runs.runs_from.Goals as goal

pub returns-clause-coarsest : goal.returns-clause-coarsest
returns-clause-coarsest c =
    subst IsCoarsest (sym c.behind.ensures) (coarsest-left _ c.args.runs.now c.requires.coarsest)

pub returns-clause-same : goal.returns-clause-same
returns-clause-same c =
    λ p h. ap (λ (xs : List Run). map_of xs p) c.behind.ensures
    ∙ left-behind c.args.page _ c.args.runs.now p c.ended_before.ensures.front h
