use Rattle.std.proofs.Common.{◌≡◌, ◌≢◌, ℕ, ◌<◌}
use Rattle.std.specs.Prelude.{Some, slice_get}
use Rattle.part_table.specs.Passes.{Pass}
use Rattle.cpu_threads.proofs.passes_back.has_pass.Given as goal

-- none of the passes so far is the CPU's
abbrev pub invariant-loop-j : goal.invariant-loop-j
invariant-loop-j g l = (j : ℕ) (p : Pass) → j < l.j → slice_get l.given.items j ≡ Some p → p.knows.cpu ≢ l.cpu
