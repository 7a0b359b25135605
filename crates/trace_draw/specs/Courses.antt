-- Where a run of a trace ends (profile).
use Rattle.std.specs.Prelude.{◌≡◌, ℕ, ◌+◌, List, [], ◌∷◌, Ok, Err}
use Rattle.trace_draw.specs.declared.course.Ended.{Ended}
use Rattle.trace_draw.specs.declared.course.Ended.TheVariants.{Clean, Fault}
use Rattle.trace_reader.specs.Reading.{lines_of}
use Rattle.trace_text.specs.declared.session.Stop.TheVariants as stops
use Rattle.trace_text.specs.Oracles.{agreed}
use Rattle.trace_text.specs.Reports.{IsPlayed}
use Rattle.trace_text.specs.Session.{Answer, RunsLine, Standing, at_start}

-- how a run goes on after a line of this number: it ends with a fault of the line
abbrev pub GoesOn : ℕ → Answer → Standing → (Standing → Ended → Type 0) → Standing → Ended → Type 0
GoesOn number (Err (stops.Fault fault)) next follows new ended =
    (new ≡ next) × (ended ≡ Fault number fault)
GoesOn number (Err stops.NoMemory) next follows new ended = ⊥
GoesOn number (Ok told) next follows new ended = follows new ended

-- the lines from a number on, at which no oracle looks, lead from one standing to another, and the
-- run ends so
abbrev pub Leads : ℕ → Standing → List (List ℕ) → Standing → Ended → Type 0
Leads number old [] new ended = (new ≡ old) × (ended ≡ Clean)
Leads number old (line ∷ rest) new ended =
    (answer : Answer)
    × (next : Standing)
    × IsPlayed (RunsLine agreed) number line old answer next
    × GoesOn number answer next (Leads (number + 1) next rest) new ended

-- the run of a whole trace leads to this standing, and ends so
abbrev pub IsRunOf : List ℕ → Standing → Ended → Type 0
IsRunOf trace standing ended = Leads 1 at_start (lines_of trace) standing ended
