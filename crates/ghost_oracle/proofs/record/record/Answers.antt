use Rattle.std.proofs.Common.{ℕ, ◌∙◌, ap, arith, length, sym}
use Rattle.std.specs.Option.{option_copied, option_map}
use denote.Bor.{Bor}
use Rattle.page_state.specs.LayoutView.{layout_of}
use Rattle.reference_model.specs.model.State.{put_at}
use Rattle.part_types.specs.declared.parts.GuestPart.{GuestPart}
use Rattle.ghost_spec.specs.Used.{rooms_of}
use Rattle.table_tree.specs.Reading.{count_of}
use Rattle.ghost_oracle.specs.Recorded.{given}
use Rattle.ghost_oracle.proofs.Counting.{read_given}
use Rattle.ghost_oracle.proofs.Recording.{is_recorded}
use Rattle.ghost_oracle.proofs.record.record.Goals as goal

pub returns-clause-state : goal.returns-clause-state
returns-clause-state g c =
    let log = c.args.layout.now.config.log in
    let b = c.in_ok-beside.beside in
    let rooms = c.in_ok-beside.ensures.rooms in
    is_recorded
    (given (option_copied c.args.vms) (option_copied c.args.shared)
    (option_map (λ (p : ℕ × Bor (GuestPart g.row.A.Denot)). (p.0, p.1.now)) c.args.guest) c.args.state.now)
    (layout_of c.args.layout.now)
    (record {
      layout = b.layout;
      vms = b.vms;
      shared = c.in-Ok-shared_given.shared;
      guests = c.in-Ok.guests;
      cpus = b.cpus;
      rooms = b.rooms;
    })
    (record {
      log = ap (λ l. l.config.log) c.in_ok-beside.ensures.layout;
      slots = c.in_ok-beside.ensures.slots;
      shared = c.in-Ok-shared_given.ensures.shared;
      guests = c.in-Ok.ensures.guests;
      cpus = c.in_ok-beside.ensures.cpus;
      vms_room = ap (λ r. r.vms) rooms ∙ c.vms_room.ensures;
      shared_room = ap (λ r. r.shared) rooms ∙ c.shared_room.ensures;
      guest_rooms = ap (λ r. rooms_of log r.guests.items) rooms ∙ c.in_ok-guest_rooms_given.ensures.rooms;
      cpu_rooms =
          ap (λ r. rooms_of log r.cpus.items) rooms ∙ c.in_ok-rooms_with.ensures.rooms
          ∙ ap (put_at (λ k. log) c.args.state.now.id) c.room.ensures;
    })

pub returns-clause-layout : goal.returns-clause-layout
returns-clause-layout g c = c.in_ok-beside.ensures.layout

pub returns-clause-kept : goal.returns-clause-kept
returns-clause-kept g c = λ guest own.
    let cpus = ap (λ l. l.config.cpus) c.in_ok-beside.ensures.layout in
    let rooms = c.in_ok-beside.ensures.rooms in
    record {
      shared = c.in-Ok-shared_given.ensures.kept;
      guests = c.in-Ok.ensures.kept guest;
      cpus = c.in_ok-beside.ensures.kept own;
      vms_count = c.in_ok-beside.ensures.slots_count;
      guests_count = c.in-Ok.ensures.count;
      cpus_count = c.in_ok-beside.ensures.cpus_count ∙ sym cpus;
      guest_rooms_count = ap (λ r. length r.guests.items) rooms ∙ c.in_ok-guest_rooms_given.ensures.count;
      cpu_rooms_count = ap (λ r. length r.cpus.items) rooms ∙ c.in_ok-rooms_with.ensures.count ∙ sym cpus;
    }

pub rooms_with-requires : goal.rooms_with-requires
rooms_with-requires g c = c.requires.cpu

pub slots_and_cpus_given-requires : goal.slots_and_cpus_given-requires
slots_and_cpus_given-requires g c = c.requires.cpu

pub guests_given-requires : goal.guests_given-requires
guests_given-requires g c = record { slot = c.requires.slot }

pub guest_rooms_given-requires : goal.guest_rooms_given-requires
guest_rooms_given-requires g c = c.requires.slot

pub returns-clause-reads : goal.returns-clause-reads
returns-clause-reads g c =
    read_given (count_of c.args.reads.now) (count_of c.guests_given.new.reads) (count_of c.shared_given.new.reads) _ _
    (omega (arith, c.count-count.type_inv, c.count-count.ensures)) c.in-Ok.ensures.reads
    c.in-Ok-shared_given.ensures.reads
