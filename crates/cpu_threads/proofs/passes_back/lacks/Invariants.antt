use Rattle.std.proofs.Common.{ℕ, ◌<◌}
use Rattle.cpu_threads.specs.Ends.{IsOut, IsGiven}
use Rattle.cpu_threads.proofs.passes_back.lacks.Given as goal

-- so far each pass that was handed out is given
abbrev pub invariant-loop-cpu : goal.invariant-loop-cpu
invariant-loop-cpu g l = (c : ℕ) → c < l.cpu → IsOut l.passes.items c → IsGiven l.given.items c
