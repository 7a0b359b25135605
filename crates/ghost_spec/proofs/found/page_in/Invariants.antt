use Rattle.std.proofs.Common.{◌≡◌, drop}
use Rattle.ghost_spec.specs.Found.{first_page_in}
use Rattle.ghost_spec.proofs.found.page_in.Given as goal

abbrev pub invariant-loop-run : goal.invariant-loop-run
invariant-loop-run l = first_page_in l.frame l.state (drop l.run-index l.runs) ≡ first_page_in l.frame l.state l.runs
