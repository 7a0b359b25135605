use Rattle.std.proofs.Common.{subst}
use Rattle.ghost_oracle.specs.RawFound.{AreSlotsFound}
use Rattle.ghost_oracle.proofs.raw_kept.raw_from.Goals as goal

pub returns-clause-found : goal.returns-clause-found
returns-clause-found g c = record {
  layout = c.in-Ok.ensures.layout;
  host_kept = c.in_ok-shared.ensures.host_kept;
  hyp_kept = c.in_ok-shared.ensures.hyp_kept;
  host_words = c.in_ok-shared.ensures.host_words;
  hyp_words = c.in_ok-shared.ensures.hyp_words;
  host_runs = c.in_ok-shared.ensures.host_runs;
  hyp_runs = c.in_ok-shared.ensures.hyp_runs;
  free = c.in_ok-shared.ensures.free;
  guests =
      subst
      (λ ps. AreSlotsFound c.args.source ps c.args.parts.now.poked.items
      c.in_ok-guests.guests.items) c.as_slice.ensures.value
      (subst
      (λ hs. AreSlotsFound c.args.source c.as_slice.result.now hs
      c.in_ok-guests.guests.items) c.as_slice-2.ensures.value c.in_ok-guests.ensures.found);
  count = c.in_ok-guests.ensures.count;
  slots = c.in-Ok.ensures.slots;
  cpus = c.in-Ok.ensures.cpus;
  rooms = c.in-Ok.ensures.rooms;
}

pub returns-clause-rows : goal.returns-clause-rows
returns-clause-rows g c = c.in_ok-shared.ensures.rows
