use Rattle.maplets.proofs.TargetRuns.{update_targets}
use Rattle.maplets.proofs.Maplets.set.Goals as goal

pub returns-clause-map : goal.returns-clause-map
returns-clause-map c =
    rw (← c.self.view_is)
    (update_targets c.self.inside.list.runs c.set.new.self.runs c.args.range.first.0 c.args.range.count
    c.args.target c.set.ensures.map)
