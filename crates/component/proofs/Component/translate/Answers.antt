use Rattle.component.proofs.Component.translate.Goals as goal

pub returns : goal.returns
returns g c = c.look.ensures
