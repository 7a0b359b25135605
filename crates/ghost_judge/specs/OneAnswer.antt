-- An audit and a judgement have one answer: at most one disagreement is the first, and none if all
-- agrees. So no condition of 'first' can be left out: there would be two first disagreements, or
-- one where all agrees.
use Rattle.std.specs.Prelude.{◌≡◌}
use Rattle.call_table.specs.declared.reply.Reply.{Reply}
use Rattle.call_table.specs.declared.step.Step.{Step}
use Rattle.reference_model.specs.model.State.{Contents, Reference}
use Rattle.ghost_judge.specs.declared.disagreement.Disagreement.{Disagreement}
use Rattle.ghost_judge.specs.Audits.{AuditAgrees, IsFirstDifference}
use Rattle.ghost_judge.specs.Judgements.{IsFirstJudged, IsFirstOfState, JudgeAgrees}

-- of an audit
abbrev pub AuditOnce : Type 0
AuditOnce =
    (kept walked : Contents) (d e : Disagreement)
    → IsFirstDifference kept walked d
    → IsFirstDifference kept walked e
    → d ≡ e

abbrev pub AuditElse : Type 0
AuditElse =
    (kept walked : Contents) (d : Disagreement)
    → AuditAgrees kept walked
    → IsFirstDifference kept walked d
    → ⊥

-- of two states
abbrev pub StateOnce : Type 0
StateOnce =
    (post spec : Contents) (d e : Disagreement)
    → IsFirstOfState post spec d
    → IsFirstOfState post spec e
    → d ≡ e

abbrev pub StateElse : Type 0
StateElse = (post spec : Contents) (d : Disagreement) → post ≡ spec → IsFirstOfState post spec d → ⊥

-- of a judgement
abbrev pub JudgedOnce : Type 0
JudgedOnce =
    (pre : Contents) (step : Step) (reply : Reply) (post : Contents) (told : Reply × Reference)
    (d e : Disagreement)
    → IsFirstJudged pre step reply post told d → IsFirstJudged pre step reply post told e → d ≡ e

abbrev pub JudgedElse : Type 0
JudgedElse =
    (pre : Contents) (step : Step) (reply : Reply) (post : Contents) (told : Reply × Reference)
    (d : Disagreement)
    → JudgeAgrees pre step reply post told → IsFirstJudged pre step reply post told d → ⊥
