use Rattle.std.proofs.Common.{◌≡◌, ◌∷◌, ◌∙◌, List, ap, length, sym, arith}
use Rattle.page_state.specs.Geometries.{levels_below}
use Rattle.part_types.specs.declared.parts.GuestPart.{GuestPart}
use Rattle.part_types.specs.declared.parts.CpuState.{CpuState}
use Rattle.part_types.specs.Logs.{IsOfSize}
use Rattle.part_table.specs.declared.slot.Slot.{Slot}
use Rattle.part_table.specs.declared.slot.Slot.TheVariants.{Vm as VmSlot, Shared as SharedSlot}
use Rattle.part_table.proofs.PutTogether.{all_got, end_parts, guest_end, guests_count, has_history, numbers, rest_of, shared_end, vms_end}
use Rattle.part_table.proofs.whole.together.Goals as goal

pub first_of-vms-requires : goal.first_of-vms-requires
first_of-vms-requires g c =
    record { kinds = end_parts c.args.layout c.args.found.items c.args.cpus.items c.requires.end }

pub guests_of-guests-requires-clause-kinds : goal.guests_of-guests-requires-clause-kinds
guests_of-guests-requires-clause-kinds g c =
    rest_of c.args.found.items c.first_of-vms.result.2.items c.first_of-vms.result.0 c.first_of-vms.result.1
    (end_parts c.args.layout c.args.found.items c.args.cpus.items c.requires.end) c.first_of-vms.ensures

pub guests_of-guests-requires-clause-room : goal.guests_of-guests-requires-clause-room
guests_of-guests-requires-clause-room g c =
    let many = c.requires.end.all in
    let n = ap length c.first_of-vms.ensures in
    let room = c.requires.room in
    (c.requires.empty, omega (arith, many, n, room, c.first_of-vms.result.2.ok.0))

pub invariant_of-result : goal.invariant_of-result
invariant_of-result g c =
    let l = c.args.layout in
    let end = c.requires.end in
    let v = c.first_of-vms.result.0 in
    let s = c.first_of-vms.result.1 in
    let gs = c.guests_of-guests.result.items in
    let is =
    c.first_of-vms.ensures
    ∙ ap (λ (xs : List (Slot g.row.A.Denot)). VmSlot v ∷ (SharedSlot s ∷ xs)) c.guests_of-guests.ensures in
    let count = end.count in
    let many = guests_count l c.args.found.items c.args.cpus.items end v s gs is in
    let sv = (vms_end l c.args.found.items c.args.cpus.items end v s gs is).0 in
    let ss = (shared_end l c.args.found.items c.args.cpus.items end v s gs is).0 in
    record {
      slots = omega (arith, many, c.guests_of-guests.result.ok.0);
      counted = omega (arith, count, c.args.cpus.ok.0);
      vm_log = sv.size;
      shared_log = ss.suits.log;
      depth = ss.suits.depth;
      rows = ss.suits.rows;
      guest_depth =
          all_got (λ (w : GuestPart g.row.A.Denot). levels_below w.guest.geometry ≡ levels_below l.geometry) gs
          (λ j w e. (guest_end l c.args.found.items c.args.cpus.items end v s gs is j w e).0.suits.depth);
      guest_logs =
          all_got (λ (w : GuestPart g.row.A.Denot). IsOfSize l.config.log w.log) gs
          (λ j w e. (guest_end l c.args.found.items c.args.cpus.items end v s gs is j w e).0.suits.log);
      numbers = numbers l c.args.found.items c.args.cpus.items end;
      own_logs =
          all_got (λ (k : CpuState). IsOfSize l.config.log k.log) c.args.cpus.items
          (λ j k e. (end.left.cpus j k e).1.size);
    }

pub returns-clause-parts : goal.returns-clause-parts
returns-clause-parts g c =
    sym
    (c.first_of-vms.ensures
    ∙ ap
    (λ (xs : List (Slot g.row.A.Denot)). VmSlot c.first_of-vms.result.0
    ∷ (SharedSlot c.first_of-vms.result.1 ∷ xs)) c.guests_of-guests.ensures)

pub returns-clause-history : goal.returns-clause-history
returns-clause-history g c =
    ∣ has_history _ c.args.found.items c.requires.end
    (c.first_of-vms.ensures
    ∙ ap
    (λ (xs : List (Slot g.row.A.Denot)). VmSlot c.first_of-vms.result.0
    ∷ (SharedSlot c.first_of-vms.result.1 ∷ xs)) c.guests_of-guests.ensures) ∣₁
