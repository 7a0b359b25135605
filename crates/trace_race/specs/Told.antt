-- What the parts of a race come to (profile).
use Rattle.std.specs.Prelude.{◌≡◌, ◌⊎◌, ℕ, Bool, List, [], ◌∷◌, ◌++◌, length, Option, Result}
use Rattle.std.specs.Io.KnownBytes.{Appends}
use Rattle.page_state.specs.Layouts.{Layout}
use Rattle.page_state.specs.Regions.{Memory}
use Rattle.call_table.specs.declared.reply.Reply.{Reply}
use Rattle.trace_lines.specs.Settings.{config_of}
use Rattle.trace_reader.specs.declared.outcome.Outcome.{Outcome}
use Rattle.trace_reader.specs.declared.outcome.Outcome.TheVariants as outcomes
use Rattle.trace_text.specs.declared.fault.Fault.{Fault}
use Rattle.trace_text.specs.declared.report.ReportLine.TheVariants as report
use Rattle.trace_text.specs.declared.session.Stop.{Stop}
use Rattle.trace_text.specs.declared.session.Stop.TheVariants as stops
use Rattle.trace_text.specs.Played.{WritesFront}
use Rattle.trace_text.specs.Texts.{text_of_report}
use Rattle.trace_text.specs.Worlds.{Machine}
use Rattle.trace_race.specs.Booted.{IsBootedOf}
use Rattle.trace_race.specs.declared.booting.Booted.{Booted}
use Rattle.trace_race.specs.declared.course.Asked.{Asked}
use Rattle.trace_race.specs.Courses.{Asking, in_order_of}
use Rattle.trace_race.specs.Orders.{IsOrder}
use Rattle.trace_race.specs.Raced.{HasOneHistory, IsBegunOf, IsRead, WritesTextFront, boot_text, run_text, step_lines, steps_text}

-- a world was booted with the configuration that was asked for
abbrev pub IsBootedRun : Asking → Booted → Type 0
IsBootedRun a b = (memory : Memory) × IsBootedOf memory (config_of a.told) b

-- this text was written, and the outcome is this one
abbrev pub EndsWith : Outcome → List ℕ → Option (List ℕ) → Option (List ℕ) → Outcome → Type 0
EndsWith is text old new outcome = (outcome ≡ is) × Appends old new text

-- after the boot line comes the whole report of steps that were made, in one legal history
abbrev pub StepsEnd : Bool → Layout → ℕ → List Asked → List Reply → Option (List ℕ)
    → Option (List ℕ) → Outcome → Type 0
StepsEnd ordered l start steps replies old new outcome =
    (outcome ≡ outcomes.Clean)
    × (order : List ℕ)
    × IsOrder ordered l start steps replies order
    × Appends old new (steps_text steps replies order)

-- and a front of it, or of the lines of the steps
abbrev pub StepsBegin : Bool → Layout → ℕ → List Asked → List Reply → Option (List ℕ)
    → Option (List ℕ) → Type 0
StepsBegin ordered l start steps replies old new =
    WritesTextFront (text_of_report (step_lines steps replies)) old new
    ⊎ ((order : List ℕ)
    × IsOrder ordered l start steps replies order
    × WritesTextFront (steps_text steps replies order) old new)

-- the whole report of a machine that was booted
abbrev pub RunEnds : Bool → Machine → Asking → Option (List ℕ) → Option (List ℕ) → Outcome → Type 0
RunEnds ordered m a old new outcome =
    (outcome ≡ outcomes.Clean)
    × (replies : List Reply)
    × (length replies ≡ length a.steps)
    × HasOneHistory m a replies
    × (order : List ℕ)
    × IsOrder ordered m.layout (in_order_of a) a.steps replies order
    × Appends old new (run_text m a.steps replies order)

-- and a front of it, of the boot line alone, or of the lines of the steps too
abbrev pub RunBegins : Bool → Machine → Asking → Option (List ℕ) → Option (List ℕ) → Type 0
RunBegins ordered m a old new =
    WritesTextFront (boot_text m) old new
    ⊎ ((replies : List Reply)
    × (length replies ≡ length a.steps)
    × HasOneHistory m a replies
    × (WritesTextFront (boot_text m ++ text_of_report (step_lines a.steps replies)) old new
    ⊎ ((order : List ℕ)
    × IsOrder ordered m.layout (in_order_of a) a.steps replies order
    × WritesTextFront (run_text m a.steps replies order) old new)))

-- the whole report of what reading a trace came to
abbrev pub ReportsRace : Bool → Result Asking (ℕ × Fault) → Option (List ℕ) → Option (List ℕ)
    → Outcome → Type 0
ReportsRace ordered asked old new outcome =
    (text : List ℕ) × IsRead ordered asked text outcome × Appends old new text

-- and a front of the text of a race that stops early, or nothing
abbrev pub ReportsBegun : Bool → Result Asking (ℕ × Fault) → Option (List ℕ) → Option (List ℕ)
    → Type 0
ReportsBegun ordered asked old new =
    (new ≡ old) ⊎ ((text : List ℕ) × IsBegunOf ordered asked text × WritesTextFront text old new)

-- the line of a boot's fault
abbrev pub ReportsStop : ℕ → Stop → Option (List ℕ) → Option (List ℕ) → Outcome → Type 0
ReportsStop line (stops.Fault fault) old new outcome =
    (outcome ≡ outcomes.Fault) × Appends old new (text_of_report (report.Fault line fault ∷ []))
ReportsStop line stops.NoMemory old new outcome = ⊥

-- and a front of it; if memory was refused nothing was written
abbrev pub BeginsStop : ℕ → Stop → Option (List ℕ) → Option (List ℕ) → Type 0
BeginsStop line (stops.Fault fault) old new = WritesFront (report.Fault line fault ∷ []) old new
BeginsStop line stops.NoMemory old new = new ≡ old
