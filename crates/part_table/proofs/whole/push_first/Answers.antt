use Rattle.std.proofs.Common.{◌∷◌, [], ◌++◌, ◌∙◌, List, Option, Some, ap, arith}
use Rattle.part_table.specs.declared.slot.Slot.{Slot}
use Rattle.part_table.specs.declared.slot.Slot.TheVariants.{Vm as VmSlot, Shared as SharedSlot}
use Rattle.part_table.proofs.SteppingOn.{no_items}
use Rattle.part_table.proofs.whole.push_first.Goals as goal

pub returns-clause-items : goal.returns-clause-items
returns-clause-items g c =
    let none = no_items c.args.slots.items (let n = c.requires.empty in omega (arith, n, c.args.slots.ok.0)) in
    c.push_in_room-2.ensures.items
    ∙ ap (λ (l : List (Option (Slot g.row.A.Denot))). l ++ Some (SharedSlot c.args.shared) ∷ [])
    (c.push_in_room.ensures.items
    ∙ ap (λ (l : List (Option (Slot g.row.A.Denot))). l ++ Some (VmSlot c.args.vm) ∷ []) none)
