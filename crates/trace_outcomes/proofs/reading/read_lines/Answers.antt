use Rattle.std.proofs.Common.{◌+◌, ◌∙◌, [], ap, arith, map, refl, sym, Err}
use Rattle.std.proofs.lemmas.List.{get_or-map, length-map}
use Rattle.trace_race.specs.Courses.{course_in}
use Rattle.trace_race.proofs.Readings.{takes_fault}
use Rattle.trace_outcomes.proofs.Taken.{fault_line, one_line, past_line}
use Rattle.trace_outcomes.proofs.reading.read_lines.Goals as goal

pub returns-then-number-gt-MOST_LINES : goal.returns-then-number-gt-MOST_LINES
returns-then-number-gt-MOST_LINES c =
    let ls = map (λ line. line.now) c.args.lines.now in
    record {
      sound = tt;
      asked =
          c.loop-place.invariant.asked
          ∙ past_line ls c.loop-place.place (c.loop-place.place + 1) (course_in c.loop-place.course)
          (omega (arith, length-map c.args.lines.now (λ line. line.now), c.loop-place-test.true))
          (omega (arith, c.if-number-gt-MOST_LINES.true));
    }

pub returns-in-Err-Fault : goal.returns-in-Err-Fault
returns-in-Err-Fault c =
    let ls = map (λ line. line.now) c.args.lines.now in
    let place = c.loop-place.place in
    let course = course_in c.loop-place.course in
    record {
      sound = tt;
      asked = c.loop-place.invariant.asked
          ∙ fault_line ls place (place + 1)
          (omega (arith, length-map c.args.lines.now (λ line. line.now), c.loop-place-test.true))
          (omega (arith, c.if-number-gt-MOST_LINES.false)) course c.in-Err-Fault.fault _
          (sym (get_or-map (λ line. line.now) c.args.lines.now place _ [] c.loop-place-test.true))
          (takes_fault (Unit {0}) (place + 1) _ _ course
          (course_in c.read.new.self) c.in-Err-Fault.field-0 c.in-Err-Fault.fault refl c.in-Err-Fault.field-0-is
          c.in-Err-Fault.ensures.takes)
          ∙ ap (λ f. Err (place + 1, f)) (sym c.in-Err-Fault.fault-is);
    }

pub loop-place-preserved : goal.loop-place-preserved
loop-place-preserved c =
    let ls = map (λ line. line.now) c.args.lines.now in
    let place = c.loop-place.place in
    let course = course_in c.loop-place.course in
    record {
      sound = c.in-Ok.ensures.sound;
      asked = c.loop-place.invariant.asked
          ∙ one_line ls place (place + 1)
          (omega (arith, length-map c.args.lines.now (λ line. line.now), c.loop-place-test.true))
          (omega (arith, c.if-number-gt-MOST_LINES.false)) course (course_in c.read.new.self) _
          (sym
          (get_or-map (λ line. line.now) c.args.lines.now place _
          [] c.loop-place-test.true)) c.in-Ok.ensures.takes;
    }
