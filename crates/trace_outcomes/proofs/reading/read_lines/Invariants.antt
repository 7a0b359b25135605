use Rattle.std.proofs.Common.{◌≡◌, ◌+◌, drop, map}
use Rattle.trace_race.specs.Courses.{IsSound, course_in, course_of, nothing_asked}
use Rattle.trace_outcomes.proofs.reading.read_lines.Given as goal

abbrev pub invariant-loop-place : goal.invariant-loop-place
invariant-loop-place l = record {
  sound : IsSound (course_in l.course);
  asked : course_of 1 nothing_asked (map (λ line. line.now) l.lines)
      ≡ course_of (l.place + 1) (course_in l.course) (drop l.place (map (λ line. line.now) l.lines));
}
