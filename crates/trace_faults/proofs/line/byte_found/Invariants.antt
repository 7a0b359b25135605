use Rattle.std.proofs.Common.{◌≡◌, drop}
use Rattle.trace_faults.specs.Spots.{byte_found}
use Rattle.trace_faults.proofs.line.byte_found.Given as goal

abbrev pub invariant-loop-byte : goal.invariant-loop-byte
invariant-loop-byte l = byte_found l.line ≡ byte_found (drop l.byte-index l.line)
