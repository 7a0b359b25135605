use Rattle.std.proofs.Common.{sym, subst}
use Rattle.std.specs.Prelude.{List}
use Rattle.page_state.specs.declared.layout.Layout.{Layout as TheLayout}
use Rattle.part_types.specs.declared.parts.CpuState.{CpuState}
use Rattle.hypercalls.specs.declared.parts.Parts.{Parts}
use Rattle.part_table.specs.declared.slot.Slot.{Slot}
use Rattle.part_table.specs.Endings.{ForEach, IsEndFor, IsEndOf}
use Rattle.part_table.specs.Passes.{Opened}
use Rattle.part_table.specs.Slots.{slots_of}
use Rattle.cpu_threads.proofs.shutdown.ended.Goals as goal

pub together-parts-requires-clause-end : goal.together-parts-requires-clause-end
together-parts-requires-clause-end g c =
    let e = c.close-alloc.ensures in
    subst (λ (l : TheLayout). IsEndOf {A = g.row.A.Denot} l c.close-alloc.result.2.items c.close-alloc.result.3.items)
    (sym e.layout) e.end.end

pub returns-clause-end : goal.returns-clause-end
returns-clause-end g c =
    let t = c.together-parts.ensures in
    let t' : Opened = c.args.table in
    subst (λ (p : Parts g.row.A.Denot). IsEndFor t' (slots_of p) p.cpus.items (ForEach c.args.passes.items))
    (sym c.join.ensures)
    (subst
    (λ (z : List (Slot g.row.A.Denot) × List CpuState). IsEndFor {A = g.row.A.Denot} t' z.0 z.1
    (ForEach c.args.passes.items))
    (λ i. (sym t.parts i, (sym t.cpus i).items)) c.close-alloc.ensures.end)
