-- What reading a whole trace comes to (profile).
use Rattle.std.specs.Prelude.{◌≡◌, ℕ, List, Option, IfSome, Result, Ok, Err}
use Rattle.trace_reader.specs.Reading.{lines_of}
use Rattle.trace_text.specs.declared.fault.Fault.{Fault}
use Rattle.trace_race.specs.declared.reading.Read.{Read}
use Rattle.trace_race.specs.declared.reading.Read.TheVariants as reads
use Rattle.trace_race.specs.Courses.{Asking, IsSound, course_in, course_of, nothing_asked}

-- the requests, or the first fault
abbrev pub asked_in : Read → Result Asking (ℕ × Fault)
asked_in (reads.Whole course) = Ok (course_in course)
asked_in (reads.Fault line fault) = Err (line, fault)

abbrev pub IsSoundRead : Read → Type 0
IsSoundRead (reads.Whole course) = IsSound (course_in course)
IsSoundRead (reads.Fault line fault) = Unit {0}

-- the same for the lines of these bytes, if they are known
pub record HasRead (bytes : Option (List ℕ)) (r : Read) : Type 0 where
  pub sound : IsSoundRead r
  pub asked : IfSome bytes (λ all. course_of 1 nothing_asked (lines_of all) ≡ asked_in r)
