use Rattle.std.proofs.Common.{rules, subst}
use Rattle.std.specs.Prelude.{All}
use Rattle.maplets.specs.View.{KeptMaplets, IsInReach}
use Rattle.maplets.proofs.TargetRuns.{reach_targets}
use Rattle.maplets.proofs.Maplets.iter.Goals as goal

pub returns-clause-reach : goal.returns-clause-reach
returns-clause-reach c =
    subst (λ (m : KeptMaplets). All IsInReach m.runs) c.self.view_is
    (reach_targets c.self.inside.list.runs c.runs.ensures.reach)

pub returns-clause-runs : goal.returns-clause-runs
returns-clause-runs c = search rules
