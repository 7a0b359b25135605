-- The judgement agrees with each step of the model: its reply and its state are those that are predicted, or it wanted
-- memory and changed nothing.
use Rattle.std.proofs.Common.{◌≡◌, ℕ, sym, ap, ◌∙◌, inl, inr, true, false, Option, Some, None}
use Rattle.std.specs.Prelude.{◌⊎◌}
use Rattle.call_table.specs.declared.reply.Call.{Call}
use Rattle.call_table.specs.declared.reply.Refusal.{Refusal}
use Rattle.call_table.specs.declared.reply.Refusal.TheVariants.{NoMemory}
use Rattle.call_table.specs.declared.reply.Reply.{Reply}
use Rattle.call_table.specs.declared.reply.Reply.TheVariants.{Done, Refused}
use Rattle.call_table.specs.declared.step.Step.{Step}
use Rattle.page_state.specs.Layouts.{Layout}
use Rattle.reference_model.specs.model.Rules.{names, guest_slot}
use Rattle.reference_model.specs.model.State.{Reference}
use Rattle.reference_model.specs.model.Step.{is_full, fails, rule_of, made, answer, stored, predict_step, used_by, rooms_by, with_used, FindsFull, IsWanting, IsStoredAnswer, Steps}
use Rattle.reference_model.specs.model.Used.{Used, used_of}
use Rattle.reference_model.proofs.Steps.{log_full_keeps, refusal_keeps}
use Rattle.ghost_spec.proofs.Predictions.{predicted-full, predicted-answer}
use Rattle.ghost_judge.specs.Judgements.{is_done, IsAsPredicted, IsUnchanged, JudgeAgrees, StepsAgree}

module _ (l : Layout) (cpu : ℕ) (slot : Option ℕ) (step : Step) (x : Used) where
  abbrev answer_by : Option Refusal → Reply × Used
  answer_by o =
      elim o [
        | Some why ↦ (Refused why, x)
        | None ↦ (Done (rule_of l cpu slot step x).changes.value, made l cpu slot step x)
      ]

  -- the answer by the first test that fails
  answer_is : (o : Option Refusal)
      → fails l cpu slot step x ≡ o
      → ◌≡◌ {A = Reply × Used} (answer l cpu slot step x) (answer_by o)
  unfolding answer
  answer_is o e = ap answer_by e

module _ (l : Layout) (s t : Reference) (c : Call) (h : Steps l s c t) where
  abbrev x : Used
  x = used_by c s

  abbrev told : Reply × Reference
  told = predict_step l s c.cpu c.step

  slot_is : c.slot ≡ guest_slot (s.contents.cpu c.cpu) c.step
  unfolding used_of
  slot_is = h.on.slot

  -- a log is full
  full : FindsFull c x (rooms_by c s) h.after h.left → IsAsPredicted c.reply t.contents told
  full p =
      let e = predicted-full l s c.cpu c.step c.slot slot_is p.full in
      record {
        reply_is = p.reply ∙ sym (ap (λ (q : Reply × Reference). q.0) e);
        contents_are =
            ap (λ (u : Reference). u.contents) (log_full_keeps l s t c h p.reply)
            ∙ sym (ap (λ (q : Reply × Reference). q.1.contents) e);
      }

  -- what is predicted where the call is stored
  stored_told : is_full (names c.step) c.slot (rooms_by c s) ≡ false
      → (o : Option Refusal)
      → fails l c.cpu c.slot c.step x ≡ o
      → let a = answer_by l c.cpu c.slot c.step x o in
      ◌≡◌ {A = Reply × Reference} told (a.0, with_used c s a.1 (stored (rooms_by c s)))
  stored_told room o e = let a = answer_by l c.cpu c.slot c.step x o in
      predicted-answer l s c.cpu c.step c.slot slot_is a.0 a.1 room (answer_is l c.cpu c.slot c.step x o e)

  -- made, or refused by a test
  as_told : (reply : Reply) (y : Used)
      → ◌≡◌ {A = Reply × Reference} told (reply, with_used c s y (stored (rooms_by c s)))
      → c.reply ≡ reply
      → h.after ≡ y
      → IsAsPredicted c.reply t.contents told
  as_told reply y e r n = record {
    reply_is = r ∙ sym (ap (λ (q : Reply × Reference). q.0) e);
    contents_are =
        ap (λ (u : Reference). u.contents) h.next ∙ ap (λ (z : Used). (with_used c s z h.left).contents) n
        ∙ sym (ap (λ (q : Reply × Reference). q.1.contents) e);
  }

  -- wanting memory
  wanting : is_full (names c.step) c.slot (rooms_by c s) ≡ false
      → IsWanting l c.cpu c.slot c.step true x c.reply h.after
      → IsUnchanged s.contents c.step c.reply t.contents told
  wanting room p = record {
    wants =
        record {
          reply_is = p.reply_is;
          grows = p.grows;
          made = ap (λ (q : Reply × Reference). is_done q.0) (stored_told room None p.passes);
        };
    contents_are = refusal_keeps l s t c NoMemory h p.reply_is;
  }

  judged : FindsFull c x (rooms_by c s) h.after h.left ⊎ IsStoredAnswer l c x (rooms_by c s) h.after h.left
      → JudgeAgrees s.contents c.step c.reply t.contents told
  judged (inl p) = inl (full p)
  judged (inr p) = elim (p.answered) [
    | inl m ↦ inl (as_told _ _ (stored_told p.room None m.passes) m.reply_is m.next)
    | inr m ↦ elim m [
      | inl k ↦ inl (as_told _ _ (stored_told p.room (Some k.why) k.fail) k.reply_is k.next)
      | inr k ↦ inr (wanting p.room k)
    ]
  ]

pub step_agrees : StepsAgree
step_agrees l s t c h = judged l s t c h h.on.answers
