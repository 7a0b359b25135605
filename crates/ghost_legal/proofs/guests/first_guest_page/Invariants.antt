use Rattle.std.proofs.Common.{take}
use Rattle.std.specs.Prelude.{All}
use Rattle.ghost_legal.specs.Pages.{IsGoodRun}
use Rattle.ghost_legal.proofs.guests.first_guest_page.Given as goal

abbrev pub invariant-loop-v : goal.invariant-loop-v
invariant-loop-v l = All (λ x. All (IsGoodRun l.pages) x.tree.runs.items) (take l.v l.guests)
