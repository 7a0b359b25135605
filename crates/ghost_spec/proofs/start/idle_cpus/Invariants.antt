use Rattle.std.proofs.Common.{◌≡◌, All, length}
use Rattle.reference_model.specs.model.State.{no_cpu}
use Rattle.ghost_spec.specs.Views.{cpu_in}
use Rattle.ghost_spec.specs.States.{AreKeptCpus}
use Rattle.ghost_spec.proofs.start.idle_cpus.Given as goal

abbrev pub invariant-loop : goal.invariant-loop
invariant-loop l = record {
  count : length l.cpus.items ≡ l.counter;
  idle : All (λ k. cpu_in k ≡ no_cpu) l.cpus.items;
  kept : AreKeptCpus l.cpus.items;
}
