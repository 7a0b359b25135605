use Rattle.std.proofs.Common.{◌≡◌, drop}
use Rattle.trace_check.specs.Expectations.{leads_to_mark}
use Rattle.trace_check.proofs.comment.leads_to.Given as goal

abbrev pub invariant-loop-byte : goal.invariant-loop-byte
invariant-loop-byte l = leads_to_mark l.rest ≡ leads_to_mark (drop l.byte-index l.rest)
