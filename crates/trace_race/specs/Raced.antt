-- The report of a race (profile).
use Rattle.std.specs.Prelude.{◌≡◌, ◌⊎◌, ℕ, Bool, List, [], ◌∷◌, ◌+◌, ◌++◌, length, map, take, Option, Some, Result, Ok, Err, IfSome, MatchOption}
use Rattle.std.specs.Io.KnownBytes.{Appends}
use Rattle.page_state.specs.declared.entry.PageRange.{PageRange}
use Rattle.page_state.specs.Regions.{memory_of}
use Rattle.call_table.specs.declared.reply.Reply.{Reply}
use Rattle.ghost_judge.specs.declared.disagreement.Disagreement.{Disagreement}
use Rattle.trace_lines.specs.declared.response.Response.TheVariants as responses
use Rattle.trace_lines.specs.Settings.{config_of}
use Rattle.trace_reader.specs.Reading.{lines_of}
use Rattle.trace_reader.specs.declared.outcome.Outcome.{Outcome}
use Rattle.trace_reader.specs.declared.outcome.Outcome.TheVariants as outcomes
use Rattle.trace_text.specs.declared.fault.Fault.{Fault}
use Rattle.trace_text.specs.declared.report.ReportLine.{ReportLine}
use Rattle.trace_text.specs.declared.report.ReportLine.TheVariants as report
use Rattle.trace_text.specs.declared.session.Stop.TheVariants as stops
use Rattle.trace_text.specs.Oracles.{audited_lines}
use Rattle.trace_text.specs.Replay.{outcome_of}
use Rattle.trace_text.specs.Session.{IsNoWorld}
use Rattle.trace_text.specs.Texts.{text_of_report}
use Rattle.trace_text.specs.Worlds.{IsBootOf, Machine}
use Rattle.trace_race.specs.Booted.{boot_response}
use Rattle.trace_race.specs.declared.course.Asked.{Asked}
use Rattle.trace_race.specs.Courses.{Asking, course_of, in_order_of, nothing_asked}
use Rattle.trace_race.specs.Made.{OneHistory}
use Rattle.trace_race.specs.Orders.{IsOrder, idle_order}

-- the line of each step, by its number and CPU, in the trace's order
abbrev pub step_lines : List Asked → List Reply → List ReportLine
step_lines [] replies = []
step_lines (a ∷ more) [] = []
step_lines (a ∷ more) (reply ∷ replies) =
    report.Response (responses.Step a.line a.cpu reply) ∷ step_lines more replies

-- the text of what comparing found, of the order, and of the last line, with the numbers of steps
-- and of disagreements
abbrev pub found_text : List Disagreement → Option Disagreement → List ℕ → ℕ → List ℕ
found_text judged audited order steps =
    text_of_report (map report.Judged judged)
    ++ (text_of_report (audited_lines audited)
    ++ (order
    ++ text_of_report (report.End steps (length judged + length (audited_lines audited)) ∷ [])))

-- and the outcome
abbrev pub found_outcome : List Disagreement → Option Disagreement → Outcome
found_outcome judged audited = outcome_of (length judged + length (audited_lines audited))

-- the text after the lines of the steps: that of the order, and the last line. No line disagrees
abbrev pub end_text : ℕ → List ℕ → List ℕ
end_text steps order = order ++ text_of_report (report.End steps 0 ∷ [])

-- the text after the boot line
abbrev pub steps_text : List Asked → List Reply → List ℕ → List ℕ
steps_text steps replies order =
    text_of_report (step_lines steps replies) ++ end_text (length steps) order

-- the boot line
abbrev pub boot_text : Machine → List ℕ
boot_text m = text_of_report (report.Response (boot_response m) ∷ [])

-- the whole report
abbrev pub run_text : Machine → List Asked → List Reply → List ℕ → List ℕ
run_text m steps replies order = boot_text m ++ steps_text steps replies order

-- no machine was booted: the layout was refused, or the boot
pub record IsNoRun (a : Asking) (carve : PageRange) (number : ℕ) (text : List ℕ)
    (outcome : Outcome) : Type 0 where
  pub fault : Fault
  pub refused : IsNoWorld (stops.Fault fault) (memory_of a.told.regions carve) (config_of a.told)
  pub text_is : text ≡ text_of_report (report.Fault number fault ∷ [])
  pub outcome_is : outcome ≡ outcomes.Fault

-- There is one legal history of the steps that the trace asks for, each with the reply that its
-- line says: those before `start` come first
abbrev pub HasOneHistory : Machine → Asking → List Reply → Type 0
HasOneHistory m a replies = OneHistory m.layout (in_order_of a) a.steps replies

-- the steps were made, and each has a reply
pub record AreMadeOn (m : Machine) (a : Asking) (carve : PageRange)
    (replies : List Reply) : Type 0 where
  pub booted : IsBootOf (memory_of a.told.regions carve) (config_of a.told) m
  pub count : length replies ≡ length a.steps
  pub history : HasOneHistory m a replies

-- `ordered`: the report has the line of the order
module _ (ordered : Bool) where
  -- nothing was booted, since the trace has no `boot`
  abbrev pub IsIdle : List ℕ → Outcome → Type 0
  IsIdle text outcome = (text ≡ end_text 0 (idle_order ordered)) × (outcome ≡ outcomes.Clean)

  -- a machine was booted, and the steps were made: each has a reply
  pub record IsRun (a : Asking) (carve : PageRange) (text : List ℕ)
      (outcome : Outcome) : Type 0 where
    pub machine : Machine
    pub replies : List Reply
    pub made : AreMadeOn machine a carve replies
    pub order : List ℕ
    pub ordered_is : IsOrder ordered machine.layout (in_order_of a) a.steps replies order
    pub text_is : text ≡ run_text machine a.steps replies order
    pub outcome_is : outcome ≡ outcomes.Clean

  -- the report of what a whole trace asks for; a boot comes after a carve-out
  abbrev pub IsRaceOf : Asking → List ℕ → Outcome → Type 0
  IsRaceOf a text outcome =
      MatchOption a.boot (IsIdle text outcome)
      (λ number. MatchOption a.told.carve (IsIdle text outcome)
      (λ carve. IsNoRun a carve number text outcome ⊎ IsRun a carve text outcome))

  -- a fault of a line is the whole report
  abbrev pub IsRead : Result Asking (ℕ × Fault) → List ℕ → Outcome → Type 0
  IsRead (Err told) text outcome =
      (text ≡ text_of_report (report.Fault told.0 told.1 ∷ [])) × (outcome ≡ outcomes.Fault)
  IsRead (Ok a) text outcome = IsRaceOf a text outcome

  abbrev pub IsRaceReport : List (List ℕ) → List ℕ → Outcome → Type 0
  IsRaceReport trace text outcome = IsRead (course_of 1 nothing_asked trace) text outcome

-- the boot line alone, of the machine that the trace boots, or with the lines of all steps
pub record IsBootLine (a : Asking) (text : List ℕ) : Type 0 where
  pub number : ℕ
  pub carve : PageRange
  pub boot : a.boot ≡ Some number
  pub carve_is : a.told.carve ≡ Some carve
  pub machine : Machine
  pub booted : IsBootOf (memory_of a.told.regions carve) (config_of a.told) machine
  pub text_is : (text ≡ boot_text machine)
      ⊎ ((replies : List Reply)
      × AreMadeOn machine a carve replies
      × (text ≡ boot_text machine ++ text_of_report (step_lines a.steps replies)))

-- the text of a race that stops early: its whole report, or only the boot line, if not all steps
-- were made, or that and the lines of the steps, if no memory was left for the rest
abbrev pub IsBegunOf : Bool → Result Asking (ℕ × Fault) → List ℕ → Type 0
IsBegunOf ordered (Err told) text = text ≡ text_of_report (report.Fault told.0 told.1 ∷ [])
IsBegunOf ordered (Ok a) text =
    ((outcome : Outcome) × IsRaceOf ordered a text outcome) ⊎ IsBootLine a text

-- a front of a text was written
abbrev pub WritesTextFront : List ℕ → Option (List ℕ) → Option (List ℕ) → Type 0
WritesTextFront text old new = (count : ℕ) × Appends old new (take count text)

-- the written text is the report of a race of the trace of these bytes, if they are known
pub record IsRaced (ordered : Bool) (bytes old new : Option (List ℕ))
    (outcome : Outcome) : Type 0 where
  pub text : List ℕ
  pub written : Appends old new text
  pub report : IfSome bytes (λ all. IsRaceReport ordered (lines_of all) text outcome)

-- a front of it was written
pub record IsFront (ordered : Bool) (bytes old new : Option (List ℕ)) : Type 0 where
  pub text : List ℕ
  pub written : WritesTextFront text old new
  pub report : IfSome bytes
      (λ all. IsBegunOf ordered (course_of 1 nothing_asked (lines_of all)) text)

-- nothing was written, or a front
abbrev pub IsRaceBegun : Bool → Option (List ℕ) → Option (List ℕ) → Option (List ℕ) → Type 0
IsRaceBegun ordered bytes old new = Appends old new [] ⊎ IsFront ordered bytes old new
