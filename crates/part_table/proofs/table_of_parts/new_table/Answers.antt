use Rattle.std.proofs.Common.{List, Some, ap, length, refl, ◌∙◌}
use Rattle.std.specs.Prelude.{Option}
use Rattle.std.proofs.lemmas.List.{length-map}
use Rattle.part_table.specs.declared.slot.Slot.{Slot}
use Rattle.part_table.proofs.Rests.{zeros}
use Rattle.part_table.proofs.Root.{opens}
use Rattle.part_table.proofs.table_of_parts.new_table.Goals as goal

pub new-requires : goal.new-requires
new-requires g c =
    opens g.row.A.Denot c.args.opening.now c.args.slots.items
    (ap (λ v. v.items) c.requires.slots) c.requires.end _ refl (zeros 66)

pub returns-in-Ok-clause-table : goal.returns-in-Ok-clause-table
returns-in-Ok-clause-table g c =
    let o = c.in-Ok.ensures.ok in
    let e = c.requires.end in (
      o.0,
      o.1 ∙ ap (λ (ys : List (Option (Slot g.row.A.Denot))). length ys) e.slots_are
          ∙ length-map e.found (λ (y : Slot g.row.A.Denot). Some y) ∙ e.end.all,
      o.5,
    )
