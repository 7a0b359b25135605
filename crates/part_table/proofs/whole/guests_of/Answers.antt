use Rattle.std.proofs.Common.{◌≡◌, ◌+◌, ◌≤◌, ◌∷◌, ◌∙◌, ap, map, vec_len, sym, arith}
use Rattle.std.specs.Vec.{vec_capacity}
use Rattle.page_state.proofs.Common.{eq-same}
use Rattle.part_types.specs.declared.parts.GuestPart.{GuestPart}
use Rattle.part_table.specs.declared.slot.Slot.{Slot}
use Rattle.part_table.specs.declared.slot.Slot.TheVariants.{Guest as GuestSlot}
use Rattle.part_table.proofs.PutTogether.{first_guest, first_out, moved_back, none_left, rest_guests, some_items}
use Rattle.part_table.proofs.whole.guests_of.Goals as goal

pub remove-requires : goal.remove-requires
remove-requires g c = some_items (vec_len c.loop-found.found) (sym c.is_empty.ensures ∙ c.loop-found-test.true)

pub into_guest-guest-requires : goal.into_guest-guest-requires
into_guest-guest-requires g c =
    let some = some_items (vec_len c.loop-found.found) (sym c.is_empty.ensures ∙ c.loop-found-test.true) in
    let front =
    first_out {P = Slot g.row.A.Denot} c.loop-found.found.items c.remove.new.self.items c.remove.result
    (omega (arith, some, c.loop-found.found.ok.0)) c.remove.ensures.value c.remove.ensures.items in
    first_guest c.loop-found.found.items c.remove.new.self.items c.remove.result c.loop-found.invariant.kinds front

pub loop-found-preserved : goal.loop-found-preserved
loop-found-preserved g c =
    let i = c.loop-found.invariant in
    let some = some_items (vec_len c.loop-found.found) (sym c.is_empty.ensures ∙ c.loop-found-test.true) in
    let front =
    first_out {P = Slot g.row.A.Denot} c.loop-found.found.items c.remove.new.self.items c.remove.result
    (omega (arith, some, c.loop-found.found.ok.0)) c.remove.ensures.value c.remove.ensures.items in
    let is = front ∙ ap (λ (x : Slot g.row.A.Denot). x ∷ c.remove.new.self.items) c.into_guest-guest.ensures in
    let more =
    moved_back {P = GuestPart g.row.A.Denot} {Q = Slot g.row.A.Denot}
    (λ h. GuestSlot h) c.loop-found.guests.items c.push_in_room.new.list.items c.loop-found.found.items
    c.remove.new.self.items c.into_guest-guest.result is c.push_in_room.ensures.items in
    let a : vec_len c.push_in_room.new.list ≡ vec_len c.loop-found.guests + 1 = c.push_in_room.ensures.len in
    let b = c.remove.ensures.len in
    let d : vec_capacity c.loop-found.guests ≤ vec_capacity c.push_in_room.new.list = c.push_in_room.ensures.room in
    let room = i.room in
    record {
      all = more
          ∙ i.all;
      kinds =
          rest_guests c.loop-found.found.items c.remove.new.self.items c.into_guest-guest.result i.kinds is;
      room =
          omega (arith, a, b, d, room);
    }

pub returns : goal.returns
returns g c =
    let none : vec_len c.loop-found.found ≡ 0 =
    eq-same (vec_len c.loop-found.found) 0 (sym c.is_empty.ensures ∙ c.loop-found-test.false) in
    let left =
    none_left {P = Slot g.row.A.Denot}
    (map (λ (h : GuestPart g.row.A.Denot). GuestSlot h) c.loop-found.guests.items) c.loop-found.found.items
    (omega (arith, none, c.loop-found.found.ok.0)) in
    sym c.loop-found.invariant.all ∙ left
