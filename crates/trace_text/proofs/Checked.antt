-- A step that is shown as it was made: its judgement agrees, and so does its audit.
use Rattle.std.proofs.Common.{◌≡◌, ℕ, ap, sym, ◌∙◌, subst}
use Rattle.call_table.specs.declared.reply.Call.{Call}
use Rattle.call_table.specs.declared.reply.Reply.{Reply}
use Rattle.call_table.specs.declared.step.Step.{Step}
use Rattle.page_state.specs.Layouts.{Layout}
use Rattle.reference_model.specs.model.State.{Reference}
use Rattle.reference_model.specs.model.Step.{predict_step}
use Rattle.ghost_spec.specs.declared.state.Ghost.{Ghost}
use Rattle.ghost_spec.specs.States.{contents_in}
use Rattle.ghost_judge.specs.Audits.{AuditAgrees}
use Rattle.ghost_judge.specs.Judgements.{JudgeAgrees, told_of}
use Rattle.ghost_judge.proofs.JudgedSteps.{step_agrees}
use Rattle.ghost_oracle.proofs.Comparing.{none_differs}
use Rattle.trace_text.specs.Oracles.{IsShown}
use Rattle.trace_text.specs.Worlds.{Machine}

-- the judgement of the same call
same_call : (l k : Layout) (a b : Reference) (s t : Reference) (cpu n : ℕ) (step other : Step) (reply said : Reply)
    → l ≡ k → a ≡ b → s ≡ t → cpu ≡ n → step ≡ other → reply ≡ said
    → JudgeAgrees a.contents step reply s.contents (predict_step l a cpu step)
    → JudgeAgrees b.contents other said t.contents (predict_step k b n other)
same_call l k a b s t cpu n step other reply said lk ab st cn so rs h =
    subst (λ x. JudgeAgrees b.contents other x t.contents (predict_step k b n other)) rs
    (subst (λ x. JudgeAgrees b.contents x reply t.contents (predict_step k b n x)) so
    (subst (λ x. JudgeAgrees b.contents step reply t.contents (predict_step k b x step)) cn
    (subst (λ x. JudgeAgrees b.contents step reply x.contents (predict_step k b cpu step)) st
    (subst (λ x. JudgeAgrees x.contents step reply s.contents (predict_step k x cpu step)) ab
    (subst (λ x. JudgeAgrees a.contents step reply s.contents (predict_step x a cpu step)) lk h)))))

module _ (m : Machine) (c : Call) (t : Reference) (before : Ghost) (cpu : ℕ) (step : Step) (reply : Reply)
    (after walked : Ghost)
    (shown : IsShown m c t before cpu step reply after walked) where
  pub judged_well : JudgeAgrees (contents_in before) step reply (contents_in after) (told_of before cpu step)
  judged_well =
      same_call _ _ _ _ _ _ c.cpu cpu c.step step c.reply reply (sym shown.layout) (sym shown.before_is)
      (sym shown.after_is) shown.cpu_is shown.step_is shown.reply_is (step_agrees m.layout m.state t c shown.made)

  pub audited_well : AuditAgrees (contents_in after) (contents_in walked)
  audited_well = none_differs _ _ (ap (λ (s : Reference). s.contents) (shown.after_is ∙ sym shown.walked_is))
