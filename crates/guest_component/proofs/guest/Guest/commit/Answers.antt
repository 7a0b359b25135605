use Rattle.std.proofs.Common.{◌∙◌, ap, refl}
use Rattle.reference_model.specs.declared.changes.GuestChange.TheVariants.{Install}
use Rattle.guest_component.specs.View.{guest_depth, guest_in}
use Rattle.guest_component.specs.Plans.{IsMadeFor, guest_with}
use Rattle.guest_component.proofs.Guests.{after_install, after_empty, made_is}
use Rattle.guest_component.proofs.guest.Guest.commit.Goals as goal

pub returns-in-Install-clause-made : goal.returns-in-Install-clause-made
returns-in-Install-clause-made g c =
    let s = c.args.self.now in
    let part = Install c.in-Install.kind c.in-Install.generation c.in-Install.hand in
    let made : IsMadeFor s.geometry part c.args.plan.made = rw c.in-Install.is at c.requires.made in
    ap guest_in c.put.ensures.body
    ∙ after_install s.geometry c.args.changes.now (guest_with c.args.plan s) c.args.plan.made part c.in-Install.is
    (λ x. refl)
    (made_is s.geometry c.in-Install.kind c.in-Install.generation c.in-Install.hand c.args.plan.made made)

pub returns-in-Empty-clause-made : goal.returns-in-Empty-clause-made
returns-in-Empty-clause-made g c =
    ap guest_in c.put-in-Empty.ensures.body
    ∙ after_empty (guest_depth c.args.self.now) c.args.changes.now
    (guest_with c.args.plan c.args.self.now) c.in-Empty.is
