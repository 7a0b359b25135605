use Rattle.std.proofs.Common.{◌≡◌, ℕ, ◌<◌, map, get_or}
use Rattle.reference_model.specs.model.State.{no_cpu}
use Rattle.ghost_spec.specs.Views.{cpu_in}
use Rattle.ghost_judge.proofs.judge.cpu_apart.Given as goal

abbrev pub invariant-loop-c : goal.invariant-loop-c
invariant-loop-c l = (u : ℕ) → u < l.c → get_or (map cpu_in l.post) u no_cpu ≡ get_or (map cpu_in l.spec) u no_cpu
