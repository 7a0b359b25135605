use Rattle.std.proofs.Common.{rules, arith, ap, not}
use Rattle.trace_reader.specs.Ahead.{held, left}
use Rattle.trace_reader.proofs.Moved.{next_plain, next_bytes, ends_line, is_long, longer, is_last}
use Rattle.trace_reader.proofs.reading.read_line.Goals as goal

pub returns-then-is_empty-clause-ok : goal.returns-then-is_empty-clause-ok
returns-then-is_empty-clause-ok g c =
    let none = c.if-is_empty.ensures.none (search rules) in
    is_last _ (left c.loop.ahead (g.S.Source.remaining c.loop.source)) (g.S.Source.remaining c.fill.new.source)
    (held c.fill.new.self) c.loop.line.items _
    c.loop.invariant.bytes c.in-Ok.ensures.bytes none
    (c.in-Ok.ensures.end none) c.loop.invariant.plain c.loop.invariant.fits (ap not (search rules))

pub returns-in-Ok-true-clause-ok : goal.returns-in-Ok-true-clause-ok
returns-in-Ok-true-clause-ok g c =
    ends_line _ (left c.loop.ahead (g.S.Source.remaining c.loop.source))
    (g.S.Source.remaining c.fill.new.source) c.in-Ok-true.field-0 (held c.fill.new.self)
    (held c.give.new.self) c.loop.line.items c.give.new.line.items
    c.loop.invariant.bytes c.in-Ok.ensures.bytes c.loop.invariant.plain c.in-Ok-true.ensures c.in-Ok-true.field-0-test

pub returns-then-len-gt-MOST_BYTES-clause-ok : goal.returns-then-len-gt-MOST_BYTES-clause-ok
returns-then-len-gt-MOST_BYTES-clause-ok g c =
    is_long _ (left c.loop.ahead (g.S.Source.remaining c.loop.source))
    (g.S.Source.remaining c.fill.new.source) c.in-Ok-false.field-0 (held c.fill.new.self)
    (held c.give.new.self) c.loop.line.items c.give.new.line.items
    c.loop.invariant.bytes c.in-Ok.ensures.bytes c.loop.invariant.plain c.in-Ok-false.ensures c.in-Ok-false.field-0-test
    (search (rules, arith))

pub loop-preserved : goal.loop-preserved
loop-preserved g c =
    let more =
    longer _ (left c.loop.ahead (g.S.Source.remaining c.loop.source))
    (g.S.Source.remaining c.fill.new.source) c.in-Ok-false.field-0 (held c.fill.new.self)
    (held c.give.new.self) c.loop.line.items c.give.new.line.items
    c.loop.invariant.bytes c.in-Ok.ensures.bytes c.loop.invariant.plain c.in-Ok-false.ensures
    c.in-Ok-false.field-0-test in
    record {
      bytes =
          next_bytes _ (left c.loop.ahead (g.S.Source.remaining c.loop.source))
          (g.S.Source.remaining c.fill.new.source) c.in-Ok-false.field-0 (held c.fill.new.self)
          (held c.give.new.self) c.loop.line.items c.give.new.line.items
          c.loop.invariant.bytes c.in-Ok.ensures.bytes c.loop.invariant.plain
          c.in-Ok-false.ensures c.in-Ok-false.field-0-test;
      plain =
          next_plain _ (left c.loop.ahead (g.S.Source.remaining c.loop.source))
          (g.S.Source.remaining c.fill.new.source) c.in-Ok-false.field-0 (held c.fill.new.self)
          (held c.give.new.self) c.loop.line.items c.give.new.line.items
          c.loop.invariant.bytes c.in-Ok.ensures.bytes c.loop.invariant.plain c.in-Ok-false.ensures;
      fits = search (rules, arith);
      grows = omega (arith, more, c.loop.invariant.grows);
      counted = search rules;
    }

pub returns-in-Err-clause-counted : goal.returns-in-Err-clause-counted
returns-in-Err-clause-counted g c = search rules
