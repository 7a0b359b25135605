use Rattle.std.proofs.Common.{◌∷◌, ◌∙◌, ap, drop, length, slice_index_or, subst, sym, arith}
use Rattle.part_table.specs.declared.slot.Slot.{Slot}
use Rattle.part_table.specs.Parts.{HoldsVms, HoldsShared}
use Rattle.part_table.proofs.PutTogether.{first_out, parts_split}
use Rattle.part_table.proofs.whole.first_of.Goals as goal

pub remove-requires : goal.remove-requires
remove-requires g c =
    let t = parts_split c.args.found.items c.requires.kinds in
    let n = ap length t.3 in
    omega (arith, n, c.args.found.ok.0)

pub into_vm-vm-requires : goal.into_vm-vm-requires
into_vm-vm-requires g c =
    let t = parts_split c.args.found.items c.requires.kinds in
    subst (λ (x : Slot g.row.A.Denot). HoldsVms x)
    (sym (c.remove.ensures.value ∙ ap (λ xs. slice_index_or xs 0 c.remove.result) t.3)) tt

pub remove-requires-2 : goal.remove-requires-2
remove-requires-2 g c =
    let t = parts_split c.args.found.items c.requires.kinds in
    let n = ap length t.3 in
    let m = c.remove.ensures.len in
    omega (arith, n, m, c.args.found.ok.0)

pub into_shared-part-requires : goal.into_shared-part-requires
into_shared-part-requires g c =
    let t = parts_split c.args.found.items c.requires.kinds in
    subst (λ (x : Slot g.row.A.Denot). HoldsShared x)
    (sym
    (c.remove-2.ensures.value
    ∙ ap (λ xs. slice_index_or xs 0 c.remove-2.result) (c.remove.ensures.items ∙ ap (drop 1) t.3))) tt

pub returns : goal.returns
returns g c =
    let t = parts_split c.args.found.items c.requires.kinds in
    let n = ap length t.3 in
    let m = c.remove.ensures.len in
    let a =
    first_out {P = Slot g.row.A.Denot} c.args.found.items c.remove.new.self.items c.remove.result
    (omega (arith, n)) c.remove.ensures.value c.remove.ensures.items in
    let b =
    first_out {P = Slot g.row.A.Denot} c.remove.new.self.items c.remove-2.new.self.items c.remove-2.result
    (omega (arith, n, m, c.args.found.ok.0, c.remove.new.self.ok.0)) c.remove-2.ensures.value
    c.remove-2.ensures.items in
    a
    ∙ (λ i. c.into_vm-vm.ensures i
    ∷ (b ∙ ap (λ (x : Slot g.row.A.Denot). x ∷ c.remove-2.new.self.items) c.into_shared-part.ensures) i)
