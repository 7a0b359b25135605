use Rattle.std.proofs.Common.{refl, ◌≡◌, ◌∙◌, sym, ap}
use Rattle.std.proofs.lemmas.Result.{IfOk-from_err, IfOk-at_ok}
use Rattle.page_state.specs.LayoutView.{layout_of}
use Rattle.ghost_spec.proofs.Starts.{state-booted}
use Rattle.ghost_spec.proofs.start.start.Goals as goal

pub returns-clause-state : goal.returns-clause-state
returns-clause-state c =
    let small = c.in_ok-rooms.ensures.first in
    let large = c.in_ok-rooms.ensures.second in
    let ends = IfOk-at_ok _ small c.both-small.ensures.first in
    let maps = IfOk-at_ok _ large c.both-large.ensures.first in
    let layout = IfOk-at_ok (λ l. l ≡ c.args.layout) (IfOk-at_ok _ small c.both-small.ensures.second) refl in
    let shared = IfOk-at_ok (λ s. s ≡ c.in-Some.shared) (IfOk-at_ok _ large c.both-large.ensures.second) refl in
    let rooms = IfOk-at_ok _ ends c.both.ensures.first in
    let cpus = IfOk-at_ok _ ends c.both.ensures.second in
    let vms = IfOk-at_ok _ maps c.both-2.ensures.first in
    let guests = IfOk-at_ok _ maps c.both-2.ensures.second in
    rw c.of_kept.ensures (state-booted (layout_of c.args.layout) c.requires
    (record {
      layout = c.in_ok-rooms.layout;
      vms = c.in_ok-rooms.vms;
      shared = c.in_ok-rooms.shared;
      guests = c.in_ok-rooms.guests;
      cpus = c.in_ok-rooms.cpus;
      rooms = c.in_ok-rooms.rooms;
    })
    (ap (λ l. l.config.log) layout) (IfOk-at_ok _ vms c.empty_slots-vms.ensures.empty)
    (rw shared (rw c.in-Some.is at c.in_ok-shared.ensures.shared))
    (IfOk-at_ok _ guests c.empty_guests-guests.ensures.empty) (IfOk-at_ok _ cpus c.idle_cpus-cpus.ensures.idle)
    (IfOk-at_ok _ rooms c.unused_rooms-rooms.ensures.vms) (IfOk-at_ok _ rooms c.unused_rooms-rooms.ensures.shared)
    (IfOk-at_ok _ rooms c.unused_rooms-rooms.ensures.guests) (IfOk-at_ok _ rooms c.unused_rooms-rooms.ensures.cpus))

pub returns-in_default-clause-state : goal.returns-in_default-clause-state
returns-in_default-clause-state c = tt

pub returns-in_default-clause-layout : goal.returns-in_default-clause-layout
returns-in_default-clause-layout c = tt

pub returns-clause-layout : goal.returns-clause-layout
returns-clause-layout c =
    rw c.of_kept.ensures
    (IfOk-at_ok (λ l. l ≡ c.args.layout)
    (IfOk-at_ok _ c.in_ok-rooms.ensures.first c.both-small.ensures.second) refl)

pub returns-in_err-shared-clause-enough : goal.returns-in_err-shared-clause-enough
returns-in_err-shared-clause-enough c = IfOk-from_err _ _ c.from_residual.ensures.0

pub returns-in_err-shared-clause-state : goal.returns-in_err-shared-clause-state
returns-in_err-shared-clause-state c = IfOk-from_err _ _ c.from_residual.ensures.0

pub returns-in_err-shared-clause-layout : goal.returns-in_err-shared-clause-layout
returns-in_err-shared-clause-layout c = IfOk-from_err _ _ c.from_residual.ensures.0

pub returns-in_err-rooms-clause-enough : goal.returns-in_err-rooms-clause-enough
returns-in_err-rooms-clause-enough c = IfOk-from_err _ _ c.from_residual-in_err-rooms.ensures.0

pub returns-in_err-rooms-clause-state : goal.returns-in_err-rooms-clause-state
returns-in_err-rooms-clause-state c = IfOk-from_err _ _ c.from_residual-in_err-rooms.ensures.0

pub returns-in_err-rooms-clause-layout : goal.returns-in_err-rooms-clause-layout
returns-in_err-rooms-clause-layout c = IfOk-from_err _ _ c.from_residual-in_err-rooms.ensures.0

pub of_kept-requires : goal.of_kept-requires
of_kept-requires c =
    let small = c.in_ok-rooms.ensures.first in
    let large = c.in_ok-rooms.ensures.second in
    let ends = IfOk-at_ok _ small c.both-small.ensures.first in
    let maps = IfOk-at_ok _ large c.both-large.ensures.first in
    let layout = IfOk-at_ok (λ l. l ≡ c.args.layout) (IfOk-at_ok _ small c.both-small.ensures.second) refl in
    let shared = IfOk-at_ok (λ s. s ≡ c.in-Some.shared) (IfOk-at_ok _ large c.both-large.ensures.second) refl in
    let rooms = IfOk-at_ok _ ends c.both.ensures.first in
    let cpus = IfOk-at_ok _ ends c.both.ensures.second in
    let guests = IfOk-at_ok _ maps c.both-2.ensures.second in
    let many = ap (λ l. l.config.cpus) (sym layout) in
    record {
      shared = rw shared (rw c.in-Some.is at c.in_ok-shared.ensures.kept);
      guests = IfOk-at_ok _ guests c.empty_guests-guests.ensures.kept;
      cpus = IfOk-at_ok _ cpus c.idle_cpus-cpus.ensures.kept;
      vms_count = IfOk-at_ok _ (IfOk-at_ok _ maps c.both-2.ensures.first) c.empty_slots-vms.ensures.count;
      guests_count = IfOk-at_ok _ guests c.empty_guests-guests.ensures.count;
      cpus_count = IfOk-at_ok _ cpus c.idle_cpus-cpus.ensures.count ∙ many;
      guest_rooms_count = IfOk-at_ok _ rooms c.unused_rooms-rooms.ensures.guests_count;
      cpu_rooms_count = IfOk-at_ok _ rooms c.unused_rooms-rooms.ensures.cpus_count ∙ many;
    }

pub returns-clause-enough : goal.returns-clause-enough
returns-clause-enough c = rw c.in-Some.is at c.in_ok-shared.ensures.enough
