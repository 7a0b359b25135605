use Rattle.std.proofs.Common.{◌≡◌, take}
use Rattle.trace_words.specs.Words.{has_stray_byte}
use Rattle.trace_words.proofs.words.has_stray_byte.Given as goal

abbrev pub invariant-loop-byte : goal.invariant-loop-byte
invariant-loop-byte l = l.has_stray ≡ has_stray_byte (take l.byte-index l.line)
