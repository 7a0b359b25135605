use Rattle.std.proofs.Common.{arith, ◌≡◌, ◌∙◌}
use Rattle.trace_reader.specs.Ahead.{left}
use Rattle.trace_race.specs.Courses.{course_in}
use Rattle.trace_race.proofs.Readings.{goes_end, goes_fault, goes_next, goes_past, takes_fault, takes_line}
use Rattle.trace_race.proofs.reading.read_lines.Goals as goal

pub returns-then-not-branch-clause-read : goal.returns-then-not-branch-clause-read
returns-then-not-branch-clause-read g c =
    let read = rw c.if-not-branch.true at c.in_ok-read_line.ensures.ok in
    record {
      sound = c.loop-number.invariant.sound;
      asked =
          goes_end _ (left c.loop-number.ahead (g.S.Source.remaining c.loop-number.source))
          (left c.read_line.new.ahead (g.S.Source.remaining c.read_line.new.source)) c.read_line.new.line.items
          c.loop-number.number
          (course_in c.loop-number.course) c.loop-number.invariant.goes read;
    }

pub returns-in-Err-Fault-clause-read : goal.returns-in-Err-Fault-clause-read
returns-in-Err-Fault-clause-read g c =
    let read = rw c.if-not-branch.false at c.in_ok-read_line.ensures.ok in
    let takes =
    takes_fault (Unit {0}) c.loop-number.number c.as_slice.result.now c.read_line.new.line.items
    (course_in c.loop-number.course)
    (course_in c.read.new.self) c.in-Err-Fault.field-0 c.in-Err-Fault.fault c.as_slice.ensures.value
    c.in-Err-Fault.field-0-is c.in-Err-Fault.ensures.takes in
    record {
      sound = tt;
      asked =
          goes_fault _ (left c.loop-number.ahead (g.S.Source.remaining c.loop-number.source))
          (left c.read_line.new.ahead (g.S.Source.remaining c.read_line.new.source)) c.read_line.new.line.items
          c.loop-number.number
          (course_in c.loop-number.course) c.in-Err-Fault.fault c.loop-number.invariant.goes read
          (omega arith) takes;
    }

pub loop-number-preserved : goal.loop-number-preserved
loop-number-preserved g c =
    let read = rw c.if-not-branch.false at c.in_ok-read_line.ensures.ok in
    let takes =
    takes_line (Unit {0}) c.loop-number.number c.as_slice.result.now c.read_line.new.line.items
    (course_in c.loop-number.course)
    (course_in c.read.new.self) c.in-Ok.field-0 c.as_slice.ensures.value c.in-Ok.ensures.takes in
    record {
      goes =
          goes_next _ (left c.loop-number.ahead (g.S.Source.remaining c.loop-number.source))
          (left c.read_line.new.ahead (g.S.Source.remaining c.read_line.new.source)) c.read_line.new.line.items
          c.loop-number.number
          (course_in c.loop-number.course) (course_in c.read.new.self) c.loop-number.invariant.goes read
          (omega arith) takes;
      sound = c.in-Ok.ensures.sound;
      reads = c.in_ok-read_line.ensures.counted ∙ c.loop-number.invariant.reads;
    }

pub returns-then-branch-clause-read : goal.returns-then-branch-clause-read
returns-then-branch-clause-read g c =
    let read = rw c.if-branch.true at c.in_ok-read_line-2.ensures.ok in
    let last : c.loop-number.number ≡ 1048577 = omega arith in
    record {
      sound = tt;
      asked =
          goes_past _ (left c.loop-number.ahead (g.S.Source.remaining c.loop-number.source))
          (left c.read_line-2.new.ahead
          (g.S.Source.remaining c.read_line-2.new.source)) c.read_line-2.new.line.items 1048577
          (course_in c.loop-number.course) (rw last at c.loop-number.invariant.goes) read (omega arith);
    }

pub returns-clause-read : goal.returns-clause-read
returns-clause-read g c =
    let read = rw c.if-branch.false at c.in_ok-read_line-2.ensures.ok in
    record {
      sound = c.loop-number.invariant.sound;
      asked =
          goes_end _ (left c.loop-number.ahead (g.S.Source.remaining c.loop-number.source))
          (left c.read_line-2.new.ahead
          (g.S.Source.remaining c.read_line-2.new.source)) c.read_line-2.new.line.items c.loop-number.number
          (course_in c.loop-number.course) c.loop-number.invariant.goes read;
    }
