-- The steps of a trace, and what each adds to the counts (profile).
use Rattle.std.specs.Prelude.{◌≡◌, ℕ, ◌+◌, Bool, true, false, List, [], ◌∷◌, ◌++◌, Option, Some, None, Result, Ok, Err, is_some}
use Rattle.call_table.specs.declared.reply.Refusal.{Refusal}
use Rattle.call_table.specs.declared.reply.Reply.{Reply}
use Rattle.call_table.specs.declared.reply.Reply.TheVariants.{Done, Refused}
use Rattle.call_table.specs.declared.step.Step.{Step}
use Rattle.call_table.specs.Named.{named_by}
use Rattle.trace_cover.specs.declared.condition.Condition.{Condition}
use Rattle.trace_cover.specs.declared.steps.Seen.{Seen}
use Rattle.trace_cover.specs.Found.{condition_at}
use Rattle.trace_faults.specs.Spots.{place_line}
use Rattle.trace_lines.specs.declared.fault.LineFault.{LineFault}
use Rattle.trace_lines.specs.declared.line.Line.{Line}
use Rattle.trace_lines.specs.declared.line.Line.TheVariants as lines
use Rattle.trace_lines.specs.declared.place.Allows.{Allows}
use Rattle.trace_lines.specs.declared.response.Response.{Response}
use Rattle.trace_lines.specs.declared.response.Response.TheVariants as responses
use Rattle.trace_lines.specs.Places.{before_boot, of_audit}
use Rattle.trace_lines.specs.Said.{said}
use Rattle.trace_reader.specs.declared.outcome.Outcome.{Outcome}
use Rattle.trace_reader.specs.declared.outcome.Outcome.TheVariants as outcomes
use Rattle.trace_text.specs.declared.fault.Fault.{Fault}
use Rattle.trace_text.specs.declared.report.ReportLine.{ReportLine}
use Rattle.trace_text.specs.declared.report.ReportLine.TheVariants as report
use Rattle.trace_text.specs.declared.session.Stop.TheVariants as stops
use Rattle.trace_text.specs.Oracles.{agreed}
use Rattle.trace_text.specs.Replay.{IsPlayed}
use Rattle.trace_text.specs.Session.{Answer, Standing, at_start}
use Rattle.trace_text.specs.Worlds.{Machine}

-- what is allowed before and after the boot: the same as in an audit before its first poke
abbrev pub allowed : Bool → Bool → Allows
allowed false started = before_boot
allowed true started = of_audit started

-- what a line says at this point of a trace
abbrev pub line_read : Standing → List ℕ → Result (Option Line) LineFault
line_read old line = said (allowed (is_some old.machine) old.started) old.told line

-- it is a poke
abbrev pub is_poke : Result (Option Line) LineFault → Bool
is_poke (Ok (Some (lines.Poke poke))) = true
is_poke other = false

-- the step that it says, with its CPU
abbrev pub step_in : Result (Option Line) LineFault → Option (ℕ × Step)
step_in (Ok (Some (lines.Step cpu step))) = Some (cpu, step)
step_in other = None

-- the condition, before a step, of the frame that it names
abbrev pub condition_before : Option Machine → Option (ℕ × Step) → Option Condition
condition_before (Some m) (Some (cpu, step)) = condition_at m cpu step
condition_before machine asked = None

-- why a step was refused
abbrev pub refused : Reply → Option Refusal
refused (Done value) = None
refused (Refused why) = Some why

-- what a step adds to the counts, by the line that reports it
abbrev pub seen_in : Step → Option Condition → Response → List Seen
seen_in step condition (responses.Step number by reply) =
    (record { call = (named_by step).call; why = refused reply; condition = condition }) ∷ []
seen_in step condition other = []

-- what a line adds to the counts, by its report: its call, its reply, and the condition of its
-- frame. Nothing if it is no step
abbrev pub seen_of : Option (ℕ × Step) → Option Condition → List ReportLine → List Seen
seen_of (Some (cpu, step)) condition (report.Response response ∷ more) =
    seen_in step condition response
seen_of asked condition reported = []

-- so of a line at this point of a trace
abbrev pub seen_at : Standing → List ℕ → List ReportLine → List Seen
seen_at old line reported =
    seen_of (step_in (line_read old line))
    (condition_before old.machine (step_in (line_read old line))) reported

module _ (name : List ℕ) (all : List (List ℕ)) where
  -- what the lines from one on add to the counts, if that line has this answer: its step, and then
  -- the steps after it. A fault ends the run and is reported
  abbrev pub Goes : ℕ → List ℕ → Standing → Answer → (List Seen → List ℕ → Outcome → Type 0)
      → List Seen → List ℕ → Outcome → Type 0
  Goes place line old (Err (stops.Fault fault)) follows seen text outcome =
      (seen ≡ []) × (text ≡ place_line name all place fault) × (outcome ≡ outcomes.Fault)
  Goes place line old (Err stops.NoMemory) follows seen text outcome = ⊥
  Goes place line old (Ok reported) follows seen text outcome =
      (more : List Seen) × (seen ≡ seen_at old line reported ++ more) × follows more text outcome

  -- a trace ends here
  abbrev pub Ends : List Seen → List ℕ → Outcome → Type 0
  Ends seen text outcome = (seen ≡ []) × (text ≡ []) × (outcome ≡ outcomes.Clean)

  -- so does one before a poke, and otherwise the line is carried out as a replay does
  abbrev pub GoesOn : Bool → ℕ → List ℕ → Standing
      → (Standing → List Seen → List ℕ → Outcome → Type 0) → List Seen → List ℕ → Outcome → Type 0
  GoesOn true place line old follows seen text outcome = Ends seen text outcome
  GoesOn false place line old follows seen text outcome =
      (answer : Answer)
      × (new : Standing)
      × IsPlayed agreed (place + 1) line old answer new
      × Goes place line old answer (follows new) seen text outcome

  -- the steps of the lines of a trace, from a place on, up to its first poke, its first fault or
  -- its end; `name` is the trace's file
  abbrev pub Counts : ℕ → Standing → List (List ℕ) → List Seen → List ℕ → Outcome → Type 0
  Counts place old [] seen text outcome = Ends seen text outcome
  Counts place old (line ∷ rest) seen text outcome =
      GoesOn (is_poke (line_read old line)) place line old
      (λ new. Counts (place + 1) new rest) seen text outcome

  -- so of all lines of a trace
  abbrev pub CountsAll : List Seen → List ℕ → Outcome → Type 0
  CountsAll = Counts 0 at_start all
