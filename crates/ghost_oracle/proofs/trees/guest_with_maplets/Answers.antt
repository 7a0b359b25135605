use Rattle.std.proofs.Common.{ap, sym, ◌∙◌}
use Rattle.guest_component.specs.View.{guest_in, runs_of}
use Rattle.ghost_oracle.proofs.trees.guest_with_maplets.Goals as goal

pub body_with_maplets-requires : goal.body_with_maplets-requires
body_with_maplets-requires g c = c.requires ∙ ap guest_in c.in-Some.ensures

pub returns-in-None-clause-runs : goal.returns-in-None-clause-runs
returns-in-None-clause-runs g c = c.none.ensures.runs ∙ sym (ap runs_of c.in-None.ensures)
