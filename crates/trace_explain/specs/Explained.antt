-- What `explain` says of a trace (profile).
use Rattle.std.specs.Prelude.{◌≡◌, ℕ, ◌+◌, ◌==◌, Bool, true, false, List, [], ◌∷◌, ◌++◌, codes, Option, Some, None, Result, Ok, Err, is_some}
use Rattle.state_changes.specs.Changed.{ReportsAll}
use Rattle.call_table.specs.declared.reply.Reply.TheVariants.{Refused}
use Rattle.call_table.specs.declared.step.Step.{Step}
use Rattle.trace_check.specs.Shown.{shown}
use Rattle.trace_explain.specs.Causes.{cause_of}
use Rattle.trace_explain.specs.Looks.{Look, looked, seen}
use Rattle.trace_faults.specs.Spots.{place_line}
use Rattle.trace_lines.specs.declared.fault.LineFault.{LineFault}
use Rattle.trace_lines.specs.declared.line.Line.{Line}
use Rattle.trace_lines.specs.declared.line.Line.TheVariants as lines
use Rattle.trace_lines.specs.declared.response.Response.TheVariants as responses
use Rattle.trace_lines.specs.Said.{said}
use Rattle.trace_reader.specs.declared.outcome.Outcome.{Outcome}
use Rattle.trace_reader.specs.declared.outcome.Outcome.TheVariants as outcomes
use Rattle.trace_text.specs.declared.fault.Fault.{Fault}
use Rattle.trace_text.specs.declared.report.ReportLine.{ReportLine}
use Rattle.trace_text.specs.declared.report.ReportLine.TheVariants as report
use Rattle.trace_text.specs.declared.session.Stop.TheVariants as stops
use Rattle.trace_text.specs.Oracles.{agreed}
use Rattle.trace_text.specs.Replay.{IsPlayed}
use Rattle.trace_text.specs.Session.{Answer, Standing, allowed, at_start}
use Rattle.trace_text.specs.Texts.{text_of_fault}
use Rattle.trace_text.specs.Worlds.{Machine}

-- the step that a line says, with its CPU
abbrev pub step_of : Result (Option Line) LineFault → Option (ℕ × Step)
step_of (Ok (Some (lines.Step cpu step))) = Some (cpu, step)
step_of other = None

-- that of a line at this point of a trace
abbrev pub step_at : Standing → List ℕ → Option (ℕ × Step)
step_at old line = step_of (said (allowed (is_some old.machine) old.started) old.told line)

-- a line of the report without its cause, and with it
abbrev pub plain_line : List ℕ → List ℕ
plain_line text = codes "    " ++ text ++ 10 ∷ []

abbrev pub caused_line : List ℕ → List ℕ → List ℕ
caused_line text cause = codes "    " ++ text ++ codes ": " ++ cause ++ 10 ∷ []

-- a line of the report; after a refusal of the step why it was refused
abbrev pub report_line : Option (ℕ × Step) → ReportLine → List ℕ
report_line (Some (cpu, step)) (report.Response (responses.Step number by (Refused refusal))) =
    caused_line (shown (report.Response (responses.Step number by (Refused refusal))))
    (cause_of step refusal)
report_line asked told = plain_line (shown told)

-- lines of the report
abbrev pub report_lines : Option (ℕ × Step) → List ReportLine → List ℕ
report_lines asked [] = []
report_lines asked (told ∷ more) = report_line asked told ++ report_lines asked more

-- a line with its end
abbrev pub ended : List ℕ → List ℕ
ended line = line ++ 10 ∷ []

-- a line that was carried out: itself, its report, and the contents, after it, of the places that
-- its step looked at
abbrev pub line_with : List ℕ → Option (ℕ × Step) → List Look → List ReportLine → Option Machine
    → List ℕ
line_with line asked looks reported machine =
    ended line ++ report_lines asked reported ++ looked machine asked looks

-- the same by the trace's progress before the line and after it
abbrev pub explained : List ℕ → Standing → List ReportLine → Standing → List ℕ
explained line old reported new =
    line_with line (step_at old line) (seen old.machine (step_at old line)) reported new.machine

-- the line of a trace, by its place, with a fault, and the place of the fault
abbrev pub faulty : List ℕ → List (List ℕ) → ℕ → List ℕ → Fault → List ℕ
faulty name all place line fault =
    ended line ++ codes "    fault " ++ text_of_fault fault ++ 10 ∷ codes "    "
    ++ place_line name all place fault

-- the changes of a step: all that differs between the machine before it and the one after it.
-- Without a step or a machine there are none
abbrev pub ReportsStep : Option Machine → Option (ℕ × Step) → Option Machine → List ℕ → Type 0
ReportsStep (Some m) (Some (cpu, step)) (Some n) text =
    ReportsAll m.state.contents n.state.contents cpu text
ReportsStep old asked new text = text ≡ []

-- whether a line is shown, by its number: each one, or only the line of the number given
abbrev pub is_shown : Option ℕ → ℕ → Bool
is_shown None number = true
is_shown (Some only) number = number == only

-- the lines of one that was carried out, if it is shown: its explanation, and then the changes of
-- its step
abbrev pub IsBlock : Bool → List ℕ → Standing → List ReportLine → Standing → List ℕ → Type 0
IsBlock false line old reported new text = text ≡ []
IsBlock true line old reported new text =
    (changed : List ℕ)
    × ReportsStep old.machine (step_at old line) new.machine changed
    × (text ≡ explained line old reported new ++ changed)

module _ (only : Option ℕ) (name : List ℕ) (all : List (List ℕ)) where
  -- the report from a line on that answers so: the line, and then the report of the lines after it.
  -- A fault is the end, and is always reported
  abbrev pub Says : ℕ → List ℕ → Standing → Answer → Standing → (List ℕ → Outcome → Type 0) → List ℕ
      → Outcome → Type 0
  Says place line old (Err (stops.Fault fault)) new follows text outcome =
      (text ≡ faulty name all place line fault) × (outcome ≡ outcomes.Fault)
  Says place line old (Err stops.NoMemory) new follows text outcome = ⊥
  Says place line old (Ok reported) new follows text outcome =
      (block : List ℕ)
      × (more : List ℕ)
      × IsBlock (is_shown only (place + 1)) line old reported new block
      × (text ≡ block ++ more)
      × follows more outcome

  -- the text explains the lines of a trace, from a place on, which are carried out as a replay
  -- does, up to the first that has a fault; `name` is the trace's file
  abbrev pub Explains : ℕ → Standing → List (List ℕ) → List ℕ → Outcome → Type 0
  Explains place old [] text outcome = (text ≡ []) × (outcome ≡ outcomes.Clean)
  Explains place old (line ∷ rest) text outcome =
      (answer : Answer)
      × (new : Standing)
      × IsPlayed agreed (place + 1) line old answer new
      × Says place line old answer new (Explains (place + 1) new rest) text outcome

  -- so of all lines of a trace
  abbrev pub ExplainsAll : List ℕ → Outcome → Type 0
  ExplainsAll = Explains 0 at_start all
