use Rattle.std.proofs.Common.{sym, subst, Some}
use Rattle.reference_model.specs.model.State.{no_guest}
use Rattle.guest_component.specs.Plans.{IsMadeFor}
use Rattle.guest_component.proofs.changes.installed.Goals as goal

pub returns-in_ok-body-in-Install-clause-made : goal.returns-in_ok-body-in-Install-clause-made
returns-in_ok-body-in-Install-clause-made g c =
    let b = c.in_ok-body-in-Install.body in
    subst (λ part. IsMadeFor c.args.geometry part (Some b)) (sym c.in-Install.is)
    (c.in_ok-body-in-Install.ensures.made no_guest, c.in_ok-body-in-Install.ensures.geometry)
