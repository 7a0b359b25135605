use Rattle.std.proofs.Common.{◌≡◌, ◌+◌, ◌≤◌, ◌∙◌, Some, vec_len, sym, arith}
use Rattle.std.specs.Vec.{vec_capacity}
use Rattle.page_state.proofs.Common.{eq-same}
use Rattle.part_types.specs.declared.parts.GuestPart.{GuestPart}
use Rattle.part_table.specs.declared.slot.Slot.TheVariants.{Guest as GuestSlot}
use Rattle.part_table.proofs.PutTogether.{first_out, moved, no_more, some_items}
use Rattle.part_table.proofs.whole.push_guests.Goals as goal

pub remove-guest-requires : goal.remove-guest-requires
remove-guest-requires g c = some_items (vec_len c.loop-guests.guests) (sym c.is_empty.ensures ∙ c.loop-guests-test.true)

pub loop-guests-preserved : goal.loop-guests-preserved
loop-guests-preserved g c =
    let i = c.loop-guests.invariant in
    let some = some_items (vec_len c.loop-guests.guests) (sym c.is_empty.ensures ∙ c.loop-guests-test.true) in
    let front =
    first_out c.loop-guests.guests.items c.remove-guest.new.self.items c.remove-guest.result
    (omega (arith, some, c.loop-guests.guests.ok.0)) c.remove-guest.ensures.value c.remove-guest.ensures.items
    in
    let more =
    moved {P = GuestPart g.row.A.Denot}
    (λ h. Some (GuestSlot h)) c.loop-guests.slots.items c.push_in_room.new.list.items
    c.loop-guests.guests.items c.remove-guest.new.self.items c.remove-guest.result front
    c.push_in_room.ensures.items in
    let a : vec_len c.push_in_room.new.list ≡ vec_len c.loop-guests.slots + 1 = c.push_in_room.ensures.len in
    let b = c.remove-guest.ensures.len in
    let d : vec_capacity c.loop-guests.slots ≤ vec_capacity c.push_in_room.new.list = c.push_in_room.ensures.room in
    let room = i.room in
    record { all = more ∙ i.all; room = omega (arith, a, b, d, room) }

pub returns : goal.returns
returns g c =
    let none : vec_len c.loop-guests.guests ≡ 0 =
    eq-same (vec_len c.loop-guests.guests) 0 (sym c.is_empty.ensures ∙ c.loop-guests-test.false) in
    sym
    (no_more {P = GuestPart g.row.A.Denot}
    (λ h. Some (GuestSlot h)) c.loop-guests.slots.items c.loop-guests.guests.items
    (omega (arith, none, c.loop-guests.guests.ok.0)))
    ∙ c.loop-guests.invariant.all
