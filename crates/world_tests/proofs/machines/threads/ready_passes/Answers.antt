use Rattle.std.proofs.Common.{◌≡◌, ◌∙◌, length, sym, ap, subst, ⊎_elim, slice_get}
use Rattle.part_table.specs.Passes.{IsPassOf}
use Rattle.cpu_threads.proofs.Ends.{get_end}
use Rattle.world_tests.proofs.machines.threads.ready_passes.Goals as goal

pub loop-cpu-preserved : goal.loop-cpu-preserved
loop-cpu-preserved g c =
    let same : c.pass.new.self.table ≡ c.loop-cpu.machine.table = c.pass.ensures.table in (
      same ∙ c.loop-cpu.invariant.0,
      λ j p e. ⊎_elim
          (λ was. subst (λ t. IsPassOf t p) (sym same) (c.loop-cpu.invariant.1 j p was))
          (λ (t : (j ≡ length c.loop-cpu.passes.items) × (c.expect_init.new.pass ≡ p)). subst
          (IsPassOf c.pass.new.self.table) t.1 c.expect_init.ensures)
          (get_end c.loop-cpu.passes.items c.expect_init.new.pass p j
          (ap (λ l. slice_get l j) (sym c.in_ok-push.ensures.items) ∙ e)),
    )
