use Rattle.std.proofs.Common.{◌≡◌, ◌++◌, take}
use Rattle.std.specs.List.{filter_map}
use Rattle.image_findings.specs.Claims.{claim_of}
use Rattle.image_findings.proofs.claim.add_claims.Given as goal

abbrev pub invariant-loop-i : goal.invariant-loop-i
invariant-loop-i l = l.claims.items ≡ l.initial.claims.items ++ filter_map (claim_of l.tree) (take l.i l.runs)
