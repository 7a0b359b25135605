use Rattle.guest_component.specs.View.{guest_depth}
use Rattle.guest_component.proofs.Guests.{no_need, none_short}
use Rattle.guest_component.proofs.guest.Guest.reserve_map.Goals as goal

pub returns-in-None-clause-no_pool : goal.returns-in-None-clause-no_pool
returns-in-None-clause-no_pool g c =
    let s = c.args.self.now in
    none_short _ _ (no_need (guest_depth s) c.args.changes.now s.body c.in-None.is c.requires.mapped)
