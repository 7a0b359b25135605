use Rattle.std.proofs.Common.{◌≡◌, ◌∙◌, length, sym, ap, subst, ⊎_elim}
use Rattle.std.specs.Prelude.{slice_get}
use Rattle.part_table.specs.Passes.{IsPassOf}
use Rattle.cpu_threads.proofs.Ends.{get_end}
use Rattle.refuse_each.proofs.machine_end.used.Goals as goal

pub loop-cpu-preserved : goal.loop-cpu-preserved
loop-cpu-preserved c =
    let same : c.pass.new.self.table ≡ c.loop-cpu.machine.table = c.pass.ensures.table in
    λ j p e. ⊎_elim
    (λ was. subst (λ t. IsPassOf t p) (sym same) (c.loop-cpu.invariant j p was))
    (λ (t : (j ≡ length c.loop-cpu.passes.items) × (c.make_calls.new.pass ≡ p)). subst
    (IsPassOf c.pass.new.self.table) t.1 c.make_calls.ensures)
    (get_end c.loop-cpu.passes.items c.make_calls.new.pass p j
    (ap (λ l. slice_get l j) (sym c.in-Ok.ensures.items) ∙ e))
