use Rattle.std.proofs.Common.{◌≡◌, refl}
use Rattle.reference_model.specs.model.State.{no_cpu}
use Rattle.ghost_spec.specs.declared.cpu.GhostCpu.{GhostCpu}
use Rattle.ghost_spec.specs.Kept.{IsKeptCpu}
use Rattle.ghost_spec.specs.Views.{cpu_in}
use Rattle.ghost_trees.proofs.Pushed.{all_pushed, count_pushed}
use Rattle.ghost_spec.proofs.start.idle_cpus.Goals as goal

pub loop-preserved : goal.loop-preserved
loop-preserved c = record {
  count =
      count_pushed c.loop.cpus.items c.push.new.self.items _ c.loop.counter
      c.in_ok-push.ensures.items c.loop.invariant.count;
  idle =
      all_pushed
      (λ (k : GhostCpu). cpu_in k ≡ no_cpu) c.loop.cpus.items c.push.new.self.items _ c.in_ok-push.ensures.items
      c.loop.invariant.idle refl;
  kept =
      all_pushed IsKeptCpu c.loop.cpus.items c.push.new.self.items _ c.in_ok-push.ensures.items c.loop.invariant.kept
      (record { hand = tt; loaded = tt; ticket = tt });
}
