use Rattle.std.proofs.Common.{◌∙◌, arith, refl}
use Rattle.part_table.proofs.TakenApart.{ends_in, row_same}
use Rattle.part_table.proofs.whole.apart.Goals as goal

pub push_guests-slots-requires : goal.push_guests-slots-requires
push_guests-slots-requires g c =
    let a = c.push_first-slots.ensures.len in
    let b = c.args.parts.slots in
    let d = c.push_first-slots.ensures.room in
    let e = c.requires.room in
    record { room = omega (arith, a, b, d, e) }

pub returns-clause-slots : goal.returns-clause-slots
returns-clause-slots g c =
    let p = c.args.parts in
    c.push_guests-slots.ensures
    ∙ row_same
    {A = g.row.A.Denot} p.vms p.shared p.guests.items c.push_first-slots.result.items
    c.push_first-slots.ensures.items

pub returns-clause-end : goal.returns-clause-end
returns-clause-end g c = λ past.
    let p = c.args.parts in
    let slots =
    c.push_guests-slots.ensures
    ∙ row_same
    {A = g.row.A.Denot} p.vms p.shared p.guests.items c.push_first-slots.result.items
    c.push_first-slots.ensures.items in
    ends_in p past c.push_guests-slots.result.items p.cpus.items slots refl
