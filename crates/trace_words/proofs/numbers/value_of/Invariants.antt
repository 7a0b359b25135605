use Rattle.std.proofs.Common.{◌≡◌, ◌<◌, ◌^◌, take}
use Rattle.trace_words.specs.Numbers.{value_of}
use Rattle.trace_words.proofs.numbers.value_of.Given as goal

abbrev pub invariant-loop-byte : goal.invariant-loop-byte
invariant-loop-byte l = (l.value ≡ value_of l.base (take l.byte-index l.digits)) × (l.value < 2 ^ 64)
