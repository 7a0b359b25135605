use Rattle.guest_component.proofs.Guests.{no_need}
use Rattle.guest_component.specs.View.{guest_depth}
use Rattle.guest_component.proofs.guest.Guest.need.Goals as goal

pub returns-in-None-clause-value : goal.returns-in-None-clause-value
returns-in-None-clause-value g c =
    no_need (guest_depth c.args.self.now) c.args.changes.now c.args.self.now.body c.in-None.is c.requires.mapped
