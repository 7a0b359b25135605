-- What an oracle is shown of a step, and which verdicts it may give.
use Rattle.std.specs.Prelude.{◌≡◌, ℕ, List, [], ◌∷◌, ◌++◌, Option, Some, None}
use Rattle.call_table.specs.declared.reply.Call.{Call}
use Rattle.call_table.specs.declared.reply.Reply.{Reply}
use Rattle.call_table.specs.declared.step.Step.{Step}
use Rattle.page_state.specs.LayoutView.{layout_of}
use Rattle.reference_model.specs.model.State.{Reference}
use Rattle.reference_model.specs.model.Step.{Steps}
use Rattle.ghost_spec.specs.declared.state.Ghost.{Ghost}
use Rattle.ghost_spec.specs.States.{contents_in, ghost_state}
use Rattle.ghost_judge.specs.declared.disagreement.Disagreement.{Disagreement}
use Rattle.ghost_legal.specs.declared.finding.Unlawful.{Unlawful}
use Rattle.ghost_judge.specs.Judgements.{IsFirstJudged, JudgeAgrees, told_of}
use Rattle.ghost_oracle.specs.declared.compared.Compared.{Compared}
use Rattle.ghost_oracle.specs.Compared.{walked_in}
use Rattle.trace_text.specs.declared.oracle.Verdict.{Verdict}
use Rattle.trace_text.specs.declared.report.ReportLine.{ReportLine}
use Rattle.trace_text.specs.declared.report.ReportLine.TheVariants as report
use Rattle.trace_text.specs.Worlds.{Machine}

-- the verdicts that an oracle may give on a call that leads from a machine's state to another
abbrev pub Gives : Type 1
Gives = Machine → Call → Reference → Verdict → Type 0

-- it reports no disagreement
pub record IsAgreed (v : Verdict) : Type 0 where
  pub judged : v.judged ≡ None
  pub audited : v.audited ≡ None

-- it finds nothing
abbrev pub nothing_found : Verdict
nothing_found = record { judged = None; audited = None }

-- whatever the call
abbrev pub agreed : Gives
agreed m c t v = IsAgreed v

-- states are those of a call that leads from a machine's state to another, in which the kept state
-- is what walks find
pub record IsShown (m : Machine) (c : Call) (t : Reference) (before : Ghost) (cpu : ℕ)
    (step : Step) (reply : Reply) (after walked : Ghost) : Type 0 where
  pub layout : layout_of before.layout ≡ m.layout
  pub before_is : ghost_state before ≡ m.state
  pub cpu_is : c.cpu ≡ cpu
  pub step_is : c.step ≡ step
  pub reply_is : c.reply ≡ reply
  pub made : Steps m.layout m.state c t
  pub after_is : ghost_state after ≡ t
  pub walked_is : ghost_state walked ≡ t

-- a verdict may be given of each call with these states
abbrev pub ReportsShown : Gives → Ghost → ℕ → Step → Reply → Compared → Verdict → Type 0
ReportsShown gives before cpu step reply after v =
    (m : Machine) (c : Call) (t : Reference)
    → IsShown m c t before cpu step reply after.kept (walked_in after)
    → gives m c t v

-- the reply of a step, and the state that is kept after it, are what the model says by the state
-- before it
abbrev pub StepAgrees : Ghost → ℕ → Step → Reply → Ghost → Type 0
StepAgrees before cpu step reply after =
    JudgeAgrees (contents_in before) step reply (contents_in after) (told_of before cpu step)

-- they differ from it, and first so
abbrev pub IsFirstOfStep : Ghost → ℕ → Step → Reply → Ghost → Disagreement → Type 0
IsFirstOfStep before cpu step reply after =
    IsFirstJudged (contents_in before) step reply (contents_in after) (told_of before cpu step)

-- the line of the report with a judgement's finding, if there is one
abbrev pub judged_lines : Option Disagreement → List ReportLine
judged_lines None = []
judged_lines (Some d) = report.Judged d ∷ []

-- and what an audit found
abbrev pub audited_lines : Option Disagreement → List ReportLine
audited_lines None = []
audited_lines (Some d) = report.Audited d ∷ []

-- and why the state that the words say isn't legal
abbrev pub illegal_lines : Option Unlawful → List ReportLine
illegal_lines None = []
illegal_lines (Some why) = report.Illegal why ∷ []

-- the report lines of a verdict: the judgement's first
abbrev pub verdict_lines : Verdict → List ReportLine
verdict_lines v = judged_lines v.judged ++ audited_lines v.audited
