use Rattle.std.proofs.Common.{◌<◌, arith, ap, sym, subst, ◌∙◌}
use Rattle.part_table.specs.Parts.{in_order}
use Rattle.part_table.specs.Rule.{known_of}
use Rattle.part_table.specs.Trying.{MakesOf, Tells}
use Rattle.part_table.proofs.Slots.{guest_low, both_low}
use Rattle.part_table.proofs.Telling.{cpu_at, left_idle}
use Rattle.part_table.proofs.tries.any.Goals.{In-Guest}
use Rattle.part_table.proofs.tries.any.Goals as goal

-- a guest's slot is one of 64
slot : (g : _) (c : In-Guest g) → c.in-Guest.v < 64
slot g c =
    let q = cpu_at c.requires.can in
    guest_low {A = g.row.A.Denot} c.args.layout.now c.args.cpu.now.id c.args.cpu.now c.args.step
    (left_idle c.args.layout.now c.args.cpu.now.id c.args.cpu.now c.args.seat.now.me.0 c.requires.can.rest.left q.0
    q.1 q.2) c.requires.can.known c.in-Guest.v
    (sym c.uses.ensures ∙ c.in-Guest.is)

pub overflow_add-v : goal.overflow_add-v
overflow_add-v g c = let v = slot g (goal.at.overflow_add-v g c).In-Guest in omega (arith, v)

pub one-requires-in-Guest-clause-part : goal.one-requires-in-Guest-clause-part
one-requires-in-Guest-clause-part g c = let v = slot g (goal.at.one-requires-in-Guest-clause-part g c).In-Guest in
    omega (arith, v)

pub two-requires-clause-part : goal.two-requires-clause-part
two-requires-clause-part g c =
    let q = cpu_at c.requires.can in
    let v : c.in-Both.v < 64 =
    both_low {A = g.row.A.Denot} c.args.layout.now c.args.cpu.now.id c.args.cpu.now c.args.step
    (left_idle c.args.layout.now c.args.cpu.now.id c.args.cpu.now c.args.seat.now.me.0 c.requires.can.rest.left
    q.0 q.1 q.2) c.requires.can.known c.in-Both.v
    (sym c.uses.ensures ∙ c.in-Both.is) in
    omega arith

pub returns-in-Both-clause-rest : goal.returns-in-Both-clause-rest
returns-in-Both-clause-rest g c = c.two.ensures.rest

pub returns-in-Guest-clause-rest : goal.returns-in-Guest-clause-rest
returns-in-Guest-clause-rest g c = c.one-in-Guest.ensures.rest

pub returns-in-Nothing-clause-rest : goal.returns-in-Nothing-clause-rest
returns-in-Nothing-clause-rest g c = c.none.ensures.rest

pub none-requires-clause-uses : goal.none-requires-clause-uses
none-requires-clause-uses g c = ap in_order (sym c.uses.ensures ∙ c.in-Nothing.is)

pub returns-in-Nothing-clause-tells : goal.returns-in-Nothing-clause-tells
returns-in-Nothing-clause-tells g c =
    subst (λ ks. Tells c.args.step ks c.none.result (known_of c.args.seat.now.me.0) (known_of c.none.new.seat.me.0))
    (sym (ap in_order (sym c.uses.ensures ∙ c.in-Nothing.is))) c.none.ensures.tells

pub one-requires-clause-uses : goal.one-requires-clause-uses
one-requires-clause-uses g c = ap in_order (sym c.uses.ensures ∙ c.in-Vms.is)

pub returns-in-Vms-clause-rest : goal.returns-in-Vms-clause-rest
returns-in-Vms-clause-rest g c = c.one.ensures.rest

pub returns-in-Vms-clause-tells : goal.returns-in-Vms-clause-tells
returns-in-Vms-clause-tells g c =
    subst (λ ks. Tells c.args.step ks c.one.result (known_of c.args.seat.now.me.0) (known_of c.one.new.seat.me.0))
    (sym (ap in_order (sym c.uses.ensures ∙ c.in-Vms.is))) c.one.ensures.tells

pub one-requires-in-Shared-clause-uses : goal.one-requires-in-Shared-clause-uses
one-requires-in-Shared-clause-uses g c = ap in_order (sym c.uses.ensures ∙ c.in-Shared.is)

pub returns-in-Shared-clause-rest : goal.returns-in-Shared-clause-rest
returns-in-Shared-clause-rest g c = c.one-in-Shared.ensures.rest

pub returns-in-Shared-clause-tells : goal.returns-in-Shared-clause-tells
returns-in-Shared-clause-tells g c =
    subst
    (λ ks. Tells c.args.step ks c.one-in-Shared.result (known_of c.args.seat.now.me.0)
    (known_of c.one-in-Shared.new.seat.me.0))
    (sym (ap in_order (sym c.uses.ensures ∙ c.in-Shared.is))) c.one-in-Shared.ensures.tells

pub one-requires-in-Guest-clause-uses : goal.one-requires-in-Guest-clause-uses
one-requires-in-Guest-clause-uses g c = ap in_order (sym c.uses.ensures ∙ c.in-Guest.is)

pub returns-in-Guest-clause-tells : goal.returns-in-Guest-clause-tells
returns-in-Guest-clause-tells g c =
    subst
    (λ ks. Tells c.args.step ks c.one-in-Guest.result (known_of c.args.seat.now.me.0)
    (known_of c.one-in-Guest.new.seat.me.0))
    (sym (ap in_order (sym c.uses.ensures ∙ c.in-Guest.is))) c.one-in-Guest.ensures.tells

pub two-requires-clause-uses : goal.two-requires-clause-uses
two-requires-clause-uses g c = ap in_order (sym c.uses.ensures ∙ c.in-Both.is)

pub returns-in-Both-clause-tells : goal.returns-in-Both-clause-tells
returns-in-Both-clause-tells g c =
    subst (λ ks. Tells c.args.step ks c.two.result (known_of c.args.seat.now.me.0) (known_of c.two.new.seat.me.0))
    (sym (ap in_order (sym c.uses.ensures ∙ c.in-Both.is))) c.two.ensures.tells

pub returns-in-Nothing-clause-made : goal.returns-in-Nothing-clause-made
returns-in-Nothing-clause-made g c =
    subst
    (λ ks. MakesOf {A = g.row.A.Denot} g.M.Maker.tells c.args.step ks c.none.result (known_of c.args.seat.now.me.0)
    (known_of c.none.new.seat.me.0) c.args.told.now c.none.new.told)
    (sym (ap in_order (sym c.uses.ensures ∙ c.in-Nothing.is))) c.none.ensures.made

pub returns-in-Vms-clause-made : goal.returns-in-Vms-clause-made
returns-in-Vms-clause-made g c =
    subst
    (λ ks. MakesOf {A = g.row.A.Denot} g.M.Maker.tells c.args.step ks c.one.result (known_of c.args.seat.now.me.0)
    (known_of c.one.new.seat.me.0) c.args.told.now c.one.new.told)
    (sym (ap in_order (sym c.uses.ensures ∙ c.in-Vms.is))) c.one.ensures.made

pub returns-in-Shared-clause-made : goal.returns-in-Shared-clause-made
returns-in-Shared-clause-made g c =
    subst
    (λ ks. MakesOf {A = g.row.A.Denot} g.M.Maker.tells c.args.step ks c.one-in-Shared.result
    (known_of c.args.seat.now.me.0)
    (known_of c.one-in-Shared.new.seat.me.0) c.args.told.now c.one-in-Shared.new.told)
    (sym (ap in_order (sym c.uses.ensures ∙ c.in-Shared.is))) c.one-in-Shared.ensures.made

pub returns-in-Guest-clause-made : goal.returns-in-Guest-clause-made
returns-in-Guest-clause-made g c =
    subst
    (λ ks. MakesOf {A = g.row.A.Denot} g.M.Maker.tells c.args.step ks c.one-in-Guest.result
    (known_of c.args.seat.now.me.0)
    (known_of c.one-in-Guest.new.seat.me.0) c.args.told.now c.one-in-Guest.new.told)
    (sym (ap in_order (sym c.uses.ensures ∙ c.in-Guest.is))) c.one-in-Guest.ensures.made

pub returns-in-Both-clause-made : goal.returns-in-Both-clause-made
returns-in-Both-clause-made g c =
    subst
    (λ ks. MakesOf {A = g.row.A.Denot} g.M.Maker.tells c.args.step ks c.two.result (known_of c.args.seat.now.me.0)
    (known_of c.two.new.seat.me.0) c.args.told.now c.two.new.told)
    (sym (ap in_order (sym c.uses.ensures ∙ c.in-Both.is))) c.two.ensures.made

pub returns-in-Nothing-clause-heard : goal.returns-in-Nothing-clause-heard
returns-in-Nothing-clause-heard g c = c.none.ensures.heard

pub returns-in-Vms-clause-heard : goal.returns-in-Vms-clause-heard
returns-in-Vms-clause-heard g c = c.one.ensures.heard

pub returns-in-Shared-clause-heard : goal.returns-in-Shared-clause-heard
returns-in-Shared-clause-heard g c = c.one-in-Shared.ensures.heard

pub returns-in-Guest-clause-heard : goal.returns-in-Guest-clause-heard
returns-in-Guest-clause-heard g c = c.one-in-Guest.ensures.heard

pub returns-in-Both-clause-heard : goal.returns-in-Both-clause-heard
returns-in-Both-clause-heard g c = c.two.ensures.heard

pub none-requires-clause-can : goal.none-requires-clause-can
none-requires-clause-can g c = c.requires.can

pub one-requires-clause-can : goal.one-requires-clause-can
one-requires-clause-can g c = c.requires.can

pub one-requires-in-Shared-clause-can : goal.one-requires-in-Shared-clause-can
one-requires-in-Shared-clause-can g c = c.requires.can

pub one-requires-in-Guest-clause-can : goal.one-requires-in-Guest-clause-can
one-requires-in-Guest-clause-can g c = c.requires.can

pub two-requires-clause-can : goal.two-requires-clause-can
two-requires-clause-can g c = c.requires.can
