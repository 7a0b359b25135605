use Rattle.std.proofs.Common.{ℕ, subst}
use Rattle.std.specs.Vec.{vec_len}
use Rattle.cpu_threads.specs.Rooms.{IsZero}
use Rattle.cpu_threads.proofs.Tallies.{have_room}
use Rattle.cpu_threads.proofs.rooms.log_rooms.Goals as goal

pub returns : goal.returns
returns g c =
    let none = subst (λ (n : ℕ). IsZero n c.in_ok-tally.tally) c.len.ensures c.in_ok-tally.ensures in
    have_room
    (vec_len c.args.passes.now) c.args.passes.now.items c.args.given.now.items c.in_ok-tally.tally
    c.count_home.new.tally c.count_given.new.tally none
    (c.count_home.ensures c.if-not-count_home.false)
    (c.count_given.ensures c.if-not-count_given.false)
    record {
      vms = c.in_ok-vms.vms;
      shared = c.in_ok-shared.shared;
      guests = c.in_ok-guests.guests;
      cpus = c.in_ok-cpus.cpus;
    }
    c.in_ok-vms.ensures.items
    c.in_ok-vms.ensures.capacity
    c.in_ok-shared.ensures.items
    c.in_ok-shared.ensures.capacity
    c.in_ok-guests.ensures
    c.in_ok-cpus.ensures
