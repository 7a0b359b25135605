use Rattle.trace_race.specs.Courses.{IsSound, course_in}
use Rattle.refuse_each.proofs.reading.read_all.Given as goal

abbrev pub invariant-loop-line : goal.invariant-loop-line
invariant-loop-line g l = IsSound (course_in l.course)
