use Rattle.std.proofs.Common.{◌∙◌, ap, map, sym}
use Rattle.ghost_oracle.proofs.kept.rooms_from.Goals as goal

pub returns-clause-shared : goal.returns-clause-shared
returns-clause-shared g c = sym c.room-2.ensures

pub returns-clause-vms : goal.returns-clause-vms
returns-clause-vms g c = sym c.room.ensures

pub returns-clause-guests : goal.returns-clause-guests
returns-clause-guests g c = c.in_ok-guest_rooms.ensures ∙ ap (map (λ p. p.log.room)) c.as_slice.ensures.value

pub returns-clause-cpus : goal.returns-clause-cpus
returns-clause-cpus g c = c.in_ok-cpu_rooms.ensures ∙ ap (map (λ k. k.log.room)) c.as_slice-2.ensures.value
