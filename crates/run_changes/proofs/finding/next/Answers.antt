use Rattle.std.proofs.Common.{◌≤◌, ◌^◌, subst, arith}
use Rattle.run_list.specs.declared.run.Run.{Run}
use Rattle.run_list.proofs.Found.{reach_read}
use Rattle.run_changes.proofs.finding.next.Goals as goal

pub returns-then-place-runs-clause-below : goal.returns-then-place-runs-clause-below
returns-then-place-runs-clause-below g c = let reach =
    (reach_read g.V.Advance.CanAdvance c.args.place c.args.runs.now c.index-runs-place.result c.index-runs-place.is
    c.requires.reach c.if-place-runs.true).pages in
    subst (λ (r : Run g.row.V.Denot). r.pages.first.0 ≤ 2 ^ 63) c.index-runs-place.is (omega (arith, reach))
