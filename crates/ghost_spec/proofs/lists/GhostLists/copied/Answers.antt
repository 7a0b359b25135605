use Rattle.std.proofs.Common.{◌∙◌, sym, ap, length}
use Rattle.std.proofs.lemmas.List.{length-map}
use Rattle.std.proofs.lemmas.Result.{IfOk-at_ok}
use Rattle.ghost_spec.specs.States.{slot_in, guest_in, rooms_in}
use Rattle.ghost_spec.proofs.Copied.{same_state}
use Rattle.ghost_spec.proofs.lists.GhostLists.copied.Goals as goal

pub returns-clause-state : goal.returns-clause-state
returns-clause-state c =
    let small = c.in_ok-layout.ensures.first in
    let large = c.in_ok-layout.ensures.second in
    let ends = IfOk-at_ok _ small c.both-small.ensures.second in
    let maps = IfOk-at_ok _ large c.both-large.ensures.second in
    let layout = IfOk-at_ok _ (IfOk-at_ok _ small c.both-small.ensures.first) c.copied_layout-layout.ensures in
    let vms = IfOk-at_ok _ (IfOk-at_ok _ large c.both-large.ensures.first) c.copied_slots-vms.ensures in
    let cpus = IfOk-at_ok _ (IfOk-at_ok _ ends c.both.ensures.first) c.from_slice-cpus.ensures.items in
    let rooms =
    IfOk-at_ok _ (IfOk-at_ok _ ends c.both.ensures.second)
    (c.copied-rooms.ensures.same c.args.self.now.layout.config.log) in
    let guests = IfOk-at_ok _ (IfOk-at_ok _ maps c.both-2.ensures.first) c.copied_guests-guests.ensures.same in
    let shared = IfOk-at_ok _ (IfOk-at_ok _ maps c.both-2.ensures.second) c.copied-shared.ensures.same in
    same_state
    (record {
      layout = c.in_ok-layout.layout;
      vms = c.in_ok-layout.vms;
      shared = c.in_ok-layout.shared;
      guests = c.in_ok-layout.guests;
      cpus = c.in_ok-layout.cpus;
      rooms = c.in_ok-layout.rooms;
    }) c.args.self.now
    (rw c.as_slice.ensures.value at vms) shared (rw c.as_slice-3.ensures.value at guests)
    (cpus ∙ c.as_slice-2.ensures.value)
    (ap (λ n. rooms_in n c.in_ok-layout.rooms) (ap (λ l. l.config.log) layout) ∙ rooms)

pub returns-clause-kept : goal.returns-clause-kept
returns-clause-kept c =
    let small = c.in_ok-layout.ensures.first in
    let large = c.in_ok-layout.ensures.second in
    let ends = IfOk-at_ok _ small c.both-small.ensures.second in
    let maps = IfOk-at_ok _ large c.both-large.ensures.second in
    let layout = IfOk-at_ok _ (IfOk-at_ok _ small c.both-small.ensures.first) c.copied_layout-layout.ensures in
    let slots =
    rw c.as_slice.ensures.value at
    (IfOk-at_ok _ (IfOk-at_ok _ large c.both-large.ensures.first) c.copied_slots-vms.ensures) in
    let cpus =
    IfOk-at_ok _ (IfOk-at_ok _ ends c.both.ensures.first) c.from_slice-cpus.ensures.items
    ∙ c.as_slice-2.ensures.value in
    let rooms = IfOk-at_ok _ ends c.both.ensures.second in
    let guests = IfOk-at_ok _ maps c.both-2.ensures.first in
    let same = rw c.as_slice-3.ensures.value at (IfOk-at_ok _ guests c.copied_guests-guests.ensures.same) in
    record {
      shared = IfOk-at_ok _ (IfOk-at_ok _ maps c.both-2.ensures.second) c.copied-shared.ensures.kept;
      guests = IfOk-at_ok _ guests c.copied_guests-guests.ensures.kept;
      cpus = rw cpus c.requires.cpus;
      vms_count = sym (length-map _ slot_in) ∙ ap length slots ∙ length-map _ slot_in ∙ c.requires.vms_count;
      guests_count = sym (length-map _ guest_in) ∙ ap length same ∙ length-map _ guest_in ∙ c.requires.guests_count;
      cpus_count = ap length cpus ∙ c.requires.cpus_count ∙ sym (ap (λ l. l.config.cpus) layout);
      guest_rooms_count = ap length (IfOk-at_ok _ rooms c.copied-rooms.ensures.guests) ∙ c.requires.guest_rooms_count;
      cpu_rooms_count =
          ap length (IfOk-at_ok _ rooms c.copied-rooms.ensures.cpus) ∙ c.requires.cpu_rooms_count
          ∙ sym (ap (λ l. l.config.cpus) layout);
    }

pub returns-clause-layout : goal.returns-clause-layout
returns-clause-layout c =
    IfOk-at_ok _ (IfOk-at_ok _ c.in_ok-layout.ensures.first c.both-small.ensures.first) c.copied_layout-layout.ensures
