-- What reading a trace and booting its machine come to (profile).
use Rattle.std.specs.Prelude.{◌≡◌, ℕ, List, Result, Ok, Err, MatchResult}
use Rattle.page_state.specs.declared.layout.Config.{Config}
use Rattle.page_state.specs.Regions.{Memory}
use Rattle.ghost_spec.specs.declared.state.Ghost.{Ghost}
use Rattle.trace_text.specs.declared.fault.Fault.{Fault}
use Rattle.trace_text.specs.declared.session.Stop.{Stop}
use Rattle.trace_text.specs.Worlds.{IsBootOf}
use Rattle.trace_race.specs.Booted.{StopsBoot, machine_in}
use Rattle.trace_race.specs.Courses.{Asking, IsSound, course_in, course_of, nothing_asked}
use Rattle.trace_outcomes.specs.declared.reading.Read.{Read}
use Rattle.trace_outcomes.specs.declared.reading.Read.TheVariants as reads

-- the requests, or the first fault with the number of its line
abbrev pub asked_in : Read → Result Asking (ℕ × Fault)
asked_in (reads.Whole course) = Ok (course_in course)
asked_in (reads.Fault line fault) = Err (line, fault)

abbrev pub IsSoundRead : Read → Type 0
IsSoundRead (reads.Whole course) = IsSound (course_in course)
IsSoundRead (reads.Fault line fault) = Unit {0}

-- it is what these lines ask for
pub record IsReadOf (lines : List (List ℕ)) (r : Read) : Type 0 where
  pub sound : IsSoundRead r
  pub asked : course_of 1 nothing_asked lines ≡ asked_in r

-- the model's machine that boots on memory and a configuration, or why there is none
abbrev pub BootsTo : Memory → Config → Result Ghost Stop → Type 0
BootsTo memory config result =
    MatchResult result (λ g. IsBootOf memory config (machine_in g)) (StopsBoot memory config)
