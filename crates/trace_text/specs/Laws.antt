-- Laws of reports.
use Rattle.std.specs.Prelude.{◌≡◌, ℕ, ◌+◌, ◌<◌, false, ◌⊎◌, ⊤, List, [], ◌∷◌, ◌++◌, length, map, filter_map, All, Option, Some, None, Result, Ok, Err}
use Rattle.page_state.specs.declared.entry.PageRange.{PageRange}
use Rattle.call_table.specs.declared.reply.Call.{Call}
use Rattle.call_table.specs.declared.reply.Reply.{Reply}
use Rattle.call_table.specs.declared.step.Step.{Step}
use Rattle.reference_model.specs.model.Run.{IsRun, Runs}
use Rattle.reference_model.specs.model.State.{Reference}
use Rattle.reference_model.specs.model.Step.{Steps}
use Rattle.trace_text.specs.declared.fault.Fault.{Fault}
use Rattle.trace_lines.specs.declared.fault.LineFault.{LineFault}
use Rattle.trace_lines.specs.declared.line.Line.{Line}
use Rattle.trace_lines.specs.declared.line.Line.TheVariants as lines
use Rattle.trace_lines.specs.declared.response.Response.{Response}
use Rattle.trace_lines.specs.declared.response.Response.TheVariants as responses
use Rattle.trace_reader.specs.declared.outcome.Outcome.{Outcome}
use Rattle.trace_reader.specs.declared.outcome.Outcome.TheVariants as outcomes
use Rattle.trace_text.specs.declared.report.ReportLine.{ReportLine}
use Rattle.trace_text.specs.declared.report.ReportLine.TheVariants as report
use Rattle.trace_text.specs.Oracles.{Gives, agreed}
use Rattle.trace_text.specs.Replay.{IsPlayed, IsReport}
use Rattle.trace_lines.specs.Places.{of_replay}
use Rattle.trace_lines.specs.Said.{said}
use Rattle.trace_text.specs.Session.{Standing, HasBooted, at_start}
use Rattle.trace_text.specs.Worlds.{Machine, in_state}
use Rattle.trace_lines.specs.Settings.{no_settings}

-- the CPU and the reply of a response, if it is a step's
abbrev pub reply_of : Response → Option (ℕ × Reply)
reply_of (responses.Boot host hyp free) = None
reply_of (responses.Step number cpu reply) = Some (cpu, reply)
reply_of (responses.Word word) = None
reply_of (responses.Free free) = None
reply_of (responses.Run run) = None

-- those of a line of a report
abbrev pub reported_reply : ReportLine → Option (ℕ × Reply)
reported_reply (report.Response response) = reply_of response
reported_reply (report.Judged found) = None
reported_reply (report.Audited found) = None
reported_reply (report.Illegal why) = None
reported_reply (report.Fault number fault) = None
reported_reply (report.End steps disagreements) = None

-- those of all step lines of a report, in order
abbrev pub reported_replies : List ReportLine → List (ℕ × Reply)
reported_replies reported = filter_map reported_reply reported

-- the CPU and the step that a line asks for, if it is a step line
abbrev pub step_of_line : Result (Option Line) LineFault → Option (ℕ × Step)
step_of_line (Err fault) = None
step_of_line (Ok None) = None
step_of_line (Ok (Some (lines.Setting setting))) = None
step_of_line (Ok (Some lines.Boot)) = None
step_of_line (Ok (Some (lines.Step cpu step))) = Some (cpu, step)
step_of_line (Ok (Some (lines.Query query))) = None
step_of_line (Ok (Some (lines.Poke poke))) = None
step_of_line (Ok (Some lines.Start)) = None

-- the CPU and the step that the bytes of a line ask for, whatever came before
abbrev pub step_asked : List ℕ → Option (ℕ × Step)
step_asked line = step_of_line (said (of_replay false) no_settings line)

-- those of all step lines of a trace, in order
abbrev pub steps_asked : List (List ℕ) → List (ℕ × Step)
steps_asked trace = filter_map step_asked trace

-- the calls are of the machine's CPUs, and lead by reference steps from its state to another
pub record Leads (m : Machine) (cs : List Call) (t : Reference) : Type 0 where
  pub cpus : All (λ c. c.cpu < m.layout.config.cpus) cs
  pub runs : Runs (Steps m.layout) m.state cs t

-- a report is that of a run of the reference step from a machine's state: the run makes the steps
-- that the trace asks for before its first fault (all of them if the report ends without one), and
-- the step lines report their CPUs and replies
pub record ReportsRun (m : Machine) (trace : List (List ℕ)) (reported : List ReportLine)
    (outcome : Outcome) : Type 0 where
  pub calls : List Call
  pub last : Reference
  pub leads : Leads m calls last
  pub replies : reported_replies reported ≡ map (λ c. (c.cpu, c.reply)) calls
  -- the steps after the fault
  pub left : List (ℕ × Step)
  pub steps : steps_asked trace ≡ map (λ c. (c.cpu, c.step)) calls ++ left
  pub all : (outcome ≡ outcomes.Fault → ⊥) → left ≡ []

-- a report without a boot: one line, which isn't a step's, and if it is no fault, no step was asked
-- for
pub record ReportsNoBoot (trace : List (List ℕ)) (reported : List ReportLine)
    (outcome : Outcome) : Type 0 where
  pub line : ReportLine
  pub alone : reported ≡ line ∷ []
  pub no_step : reported_reply line ≡ None
  pub all : (outcome ≡ outcomes.Fault → ⊥) → steps_asked trace ≡ []

-- a report that a fault among these lines ends, the first of which has the number
pub record StopsIn (number : ℕ) (front : List (List ℕ)) (reported : List ReportLine)
    (outcome : Outcome) : Type 0 where
  pub told : List ReportLine
  pub line : ℕ
  pub fault : Fault
  pub lines : reported ≡ told ++ report.Fault line fault ∷ []
  pub inside : line < number + length front

-- reports of replays that ask an oracle
module _ (gives : Gives) where
  -- lines, from a number on, that report nothing and lead from one standing to another
  abbrev pub Prepares : ℕ → Standing → List (List ℕ) → Standing → Type 0
  Prepares number old [] new = new ≡ old
  Prepares number old (line ∷ rest) new =
      (next : Standing)
      × IsPlayed gives number line old (Ok []) next
      × Prepares (number + 1) next rest new

  -- a boot line of a trace, from a line of the trace on: the lines in front of it have given its
  -- settings, a carve-out among them
  pub record BootLine (number : ℕ) (start : Standing) (trace : List (List ℕ)) : Type 0 where
    pub front : List (List ℕ)
    pub boot : List ℕ
    pub rest : List (List ℕ)
    pub lines : trace ≡ front ++ boot ∷ rest
    pub old : Standing
    pub prepared : Prepares number start front old
    pub carve : PageRange
    pub carved : old.told.carve ≡ Some carve

  -- a report, from a line of the trace on, whose first line is that of a boot, and the other lines
  -- those of a run of the booted machine from the boot state
  pub record ReportsBoot (number : ℕ) (start : Standing) (trace : List (List ℕ))
      (reported : List ReportLine) (outcome : Outcome) : Type 0 where
    pub at : BootLine number start trace
    pub machine : Machine
    pub line : Response
    pub new : Standing
    pub played : IsPlayed gives (number + length at.front) at.boot at.old
        (Ok (report.Response line ∷ [])) new
    pub booted : HasBooted at.carve at.old machine line new
    pub more : List ReportLine
    pub first : reported ≡ report.Response line ∷ more
    pub run : ReportsRun machine trace more outcome
    pub ends : IsRun machine.layout run.calls run.last

  -- if there is a machine, the report of the lines from there on is that of a run of the reference
  -- step
  abbrev pub MachineRuns : Type 0
  MachineRuns =
      (number : ℕ) (old : Standing) (m : Machine) (trace : List (List ℕ))
      (reported : List ReportLine) (outcome : Outcome)
      → old.machine ≡ Some m
      → IsReport gives number old trace reported outcome
      → ReportsRun m trace reported outcome

  -- the report of a trace whose lines in `front`, from a number on, are carried out: their report,
  -- the run of the reference step in it, the machine at its end, and the report of the other lines
  -- from there
  pub record Reaches (number : ℕ) (m : Machine) (front rest : List (List ℕ))
      (reported : List ReportLine) (outcome : Outcome) : Type 0 where
    pub told : List ReportLine
    pub more : List ReportLine
    pub lines : reported ≡ told ++ more
    pub calls : List Call
    pub new : Standing
    pub last : Reference
    pub stands : new.machine ≡ Some (in_state m last)
    pub leads : Leads m calls last
    pub replies : reported_replies told ≡ map (λ c. (c.cpu, c.reply)) calls
    pub steps : steps_asked front ≡ map (λ c. (c.cpu, c.step)) calls
    pub report : IsReport gives (number + length front) new rest more outcome

  -- at each line that is reached the machine is in the state that the run of the steps before it
  -- leads to
  abbrev pub MachineReaches : Type 0
  MachineReaches =
      (number : ℕ) (old : Standing) (m : Machine) (front rest : List (List ℕ))
      (reported : List ReportLine) (outcome : Outcome)
      → old.machine ≡ Some m
      → IsReport gives number old (front ++ rest) reported outcome
      → StopsIn number front reported outcome ⊎ Reaches number m front rest reported outcome

  -- the report of a trace has no boot, or one and then a run from there
  abbrev pub TraceRuns : Type 0
  TraceRuns = (trace : List (List ℕ)) (reported : List ReportLine) (outcome : Outcome)
      → IsReport gives 1 at_start trace reported outcome
      → ReportsNoBoot trace reported outcome ⊎ ReportsBoot 1 at_start trace reported outcome

-- a line without a disagreement
abbrev pub IsAgreeing : ReportLine → Type 0
IsAgreeing (report.Response response) = ⊤
IsAgreeing (report.Judged found) = ⊥
IsAgreeing (report.Audited found) = ⊥
IsAgreeing (report.Illegal why) = ⊥
IsAgreeing (report.Fault number fault) = ⊤
IsAgreeing (report.End steps disagreements) = disagreements ≡ 0

-- a report without one
pub record HasNoDisagreement (reported : List ReportLine) (outcome : Outcome) : Type 0 where
  pub lines : All IsAgreeing reported
  pub outcome_is : outcome ≡ outcomes.Disagreed → ⊥

-- a replay whose oracle finds no disagreement reports none
abbrev pub TraceAgrees : Type 0
TraceAgrees = (trace : List (List ℕ)) (reported : List ReportLine) (outcome : Outcome)
    → IsReport agreed 1 at_start trace reported outcome → HasNoDisagreement reported outcome
