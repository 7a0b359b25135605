use Rattle.component.proofs.Component.is_empty.Goals as goal

pub returns : goal.returns
returns g c = c.is_empty.ensures
