use Rattle.std.proofs.Common.{◌∙◌, ap, map}
use Rattle.ghost_oracle.proofs.raw_kept.raw_rooms.Goals as goal

pub returns : goal.returns
returns g c = record {
  vms = c.room.ensures;
  shared = c.room-2.ensures;
  guests = c.in_ok-guest_rooms.ensures ∙ ap (map (λ g. g.log.room)) c.as_slice.ensures.value;
  cpus = c.in_ok-cpu_rooms.ensures ∙ ap (map (λ k. k.log.room)) c.as_slice-2.ensures.value;
}
