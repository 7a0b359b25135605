use Rattle.std.proofs.Common.{◌≡◌, ◌+◌, ◌-◌}
use Rattle.image_findings.specs.Unborrowed.{first_from}
use Rattle.image_findings.proofs.unborrowed.first_without.Given as goal

abbrev pub invariant-loop-i : goal.invariant-loop-i
invariant-loop-i l =
    first_from l.side l.claims (l.frame + l.i) (l.count - l.i) ≡ first_from l.side l.claims l.frame l.count
