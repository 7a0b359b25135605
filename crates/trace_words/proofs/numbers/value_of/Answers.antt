use Rattle.std.proofs.Common.{rules, arith}
use Rattle.trace_words.proofs.Digits.{stops, goes}
use Rattle.trace_words.proofs.numbers.value_of.Goals as goal

pub returns-in_err-value : goal.returns-in_err-value
returns-in_err-value c =
    let none =
    stops c.args.base c.loop-byte.value c.loop-byte.byte-index c.args.digits.now c.loop-byte.invariant.0
    (omega arith) c.requires (search rules) in
    search rules

pub loop-byte-preserved : goal.loop-byte-preserved
loop-byte-preserved c =
    goes c.args.base c.loop-byte.value c.in_ok-value.value c.loop-byte.byte-index c.args.digits.now
    c.loop-byte.invariant.0
    (omega arith) (search rules)
