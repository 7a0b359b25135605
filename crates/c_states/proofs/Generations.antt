-- Calls that can be made, how they are judged and predicted, and a step that releases a slot whose generation can't
-- rise.
use Rattle.std.proofs.Common.{◌≡◌, ℕ, Bool, true, false, List, None, Option, Some, ap, subst, not, sym, ◌∙◌, ◌<◌}
use Rattle.std.specs.Prelude.{◌↔◌, IfErr, IfOk, IfSome, IsSome, IsTrue, OnOk, Result, Ok, Err}
use Rattle.page_state.proofs.Common.{same2}
use Rattle.page_state.specs.Layouts.{Layout}
use Rattle.reference_model.specs.model.State.{Reference}
use Rattle.reference_model.specs.model.Step.{predict_step}
use Rattle.call_table.specs.declared.reply.Reply.{Reply}
use Rattle.call_table.specs.declared.step.Step.{Step}
use Rattle.ghost_spec.specs.Kept.{HasNextGeneration}
use Rattle.ghost_judge.specs.declared.disagreement.Disagreement.{Disagreement}
use Rattle.ghost_judge.specs.Judgements.{JudgeAgrees, IsFirstJudged}
use Rattle.c_words.specs.declared.reply.PlainReply.{PlainReply}
use Rattle.c_words.specs.declared.step.PlainStep.{PlainStep}
use Rattle.c_words.specs.Said.{reply_from_c}
use Rattle.c_words.specs.Steps.{step_from_c}
use Rattle.c_words.specs.Written.{reply_written}
use Rattle.c_states.specs.declared.judge.PlainCall.{PlainCall}
use Rattle.c_states.specs.declared.judge.Prediction.{Prediction}
use Rattle.c_states.specs.declared.judge.Unjudged.{Unjudged}
use Rattle.c_states.specs.declared.judge.Unjudged.TheVariants as unjudged
use Rattle.c_states.specs.declared.layout.PlainLayout.{PlainLayout}
use Rattle.c_states.specs.declared.layout.PlainRegion.{PlainRegion}
use Rattle.c_states.specs.Faults.{AreTaken}
use Rattle.c_states.specs.Judged.{prediction_from_c, CanCall, HasLastGeneration, IsReplyPredicted, IsStatePredicted, IsJudged, IsUnjudged, IsUnjudgedAfter}
use Rattle.c_states.specs.Layouts.{layout_from_c, IsTakenLayout}
use Rattle.c_states.specs.States.{Lists, contents_from_c, state_from_c}
use Rattle.c_states.specs.Told.{in_pool_order, lists_owned, AreWellFormed}

not_true : (b : Bool) → not b ≡ true → IsTrue b → ⊥
not_true true e is = absurd (let bad = e in cc)
not_true false e is = absurd (let bad = is in cc)

pub last_generation : (s : Reference) (before : Lists) (cpu : ℕ) (plain : PlainStep) (step : Step) (b : Bool)
    → step_from_c plain ≡ Some step
    → s ≡ state_from_c before
    → (IsTrue b ↔ HasNextGeneration (s.contents.cpu cpu).ticket step)
    → not b ≡ true
    → HasLastGeneration before cpu plain
last_generation s before cpu plain step b said is test last = record {
  step = step;
  step_is = said;
  last = λ has. not_true b last (test.1 (subst (λ t. HasNextGeneration (t.contents.cpu cpu).ticket step) (sym is) has));
}

pub can_call : (l : PlainLayout) (regions : List PlainRegion) (s : Reference) (before : Lists) (cpu : ℕ)
    (plain : PlainStep) (step : Step) (b : Bool)
    → step_from_c plain ≡ Some step
    → cpu < l.cpus
    → IsTakenLayout l regions
    → AreTaken l.cpus before
    → s ≡ state_from_c before
    → (IsTrue b ↔ HasNextGeneration (s.contents.cpu cpu).ticket step)
    → b ≡ true
    → CanCall l regions before cpu plain step
can_call l regions s before cpu plain step b said less layout taken is test next = record {
  step_is = said;
  cpu_is = less;
  layout = layout;
  taken = taken;
  generation = subst (λ t. HasNextGeneration (t.contents.cpu cpu).ticket step) is (test.0 next);
}

-- what the model says of the state that is made is what it says of the lists
told_is : (l : PlainLayout) (regions : List PlainRegion) (t : Layout) (s : Reference) (before : Lists) (cpu : ℕ)
    (step : Step)
    → t ≡ layout_from_c l regions
    → s ≡ state_from_c before
    → predict_step t s cpu step ≡ prediction_from_c l regions before cpu step
told_is l regions t s before cpu step layout state =
    same2 (λ (u : Layout) (x : Reference). predict_step u x cpu step) layout state

pub foretold_it : (l : PlainLayout) (regions : List PlainRegion) (t : Layout) (s : Reference) (before : Lists)
    (cpu : ℕ) (plain : PlainStep) (step : Step) (r : Result PlainReply Unjudged)
    → CanCall l regions before cpu plain step
    → t ≡ layout_from_c l regions
    → s ≡ state_from_c before
    → IfOk r (λ x. x ≡ reply_written (predict_step t s cpu step).0)
    → IfOk r (IsReplyPredicted l regions before cpu plain)
foretold_it l regions t s before cpu plain step (Ok x) can layout state h =
    record {
      step = step;
      can = can;
      reply_is = h
          ∙ ap (λ (u : Reply × Reference). reply_written u.0) (told_is l regions t s before cpu step layout state);
    }
foretold_it l regions t s before cpu plain step (Err why) can layout state h = tt

pub state_it : (l : PlainLayout) (regions : List PlainRegion) (t : Layout) (s : Reference) (before : Lists) (cpu : ℕ)
    (plain : PlainStep) (step : Step) (r : Result Prediction Unjudged)
    → CanCall l regions before cpu plain step
    → t ≡ layout_from_c l regions
    → s ≡ state_from_c before
    → IfOk r (λ f. f.reply ≡ reply_written (predict_step t s cpu step).0)
    → IfOk r (λ f. contents_from_c (lists_owned f.after) ≡ in_pool_order (predict_step t s cpu step).1.contents)
    → (n : ℕ)
    → n ≡ l.cpus
    → IfOk r (λ f. AreWellFormed n (lists_owned f.after))
    → IfOk r (λ f. IsStatePredicted l regions before cpu plain f.reply (lists_owned f.after))
state_it l regions t s before cpu plain step (Ok f) can layout state h k n cpus told =
    let e = told_is l regions t s before cpu step layout state in
    record {
      step = step;
      can = can;
      reply_is = h ∙ ap (λ (u : Reply × Reference). reply_written u.0) e;
      after_is = k
          ∙ ap (λ (u : Reply × Reference). in_pool_order u.1.contents) e;
      after_told =
          subst (λ m. AreWellFormed m (lists_owned f.after)) cpus told;
    }
state_it l regions t s before cpu plain step (Err why) can layout state h k n cpus told = tt

pub judged_it : (l : PlainLayout) (regions : List PlainRegion) (t : Layout) (s : Reference) (before : Lists)
    (call : PlainCall) (after : Lists) (step : Step) (reply : Reply) (r : Result (Option Disagreement) Unjudged)
    → CanCall l regions before call.cpu call.step step
    → reply_from_c call.reply ≡ Some reply
    → t ≡ layout_from_c l regions
    → s ≡ state_from_c before
    → OnOk r (AreTaken l.cpus after)
    → IfOk r
    (λ o. (o ≡ None) ↔ JudgeAgrees s.contents step reply (contents_from_c after) (predict_step t s call.cpu step))
    → IfOk r
    (λ o. IfSome o (IsFirstJudged s.contents step reply (contents_from_c after) (predict_step t s call.cpu step)))
    → IfOk r (IsJudged l regions before call after)
judged_it l regions t s before call after step reply (Ok o) can said layout state taken none first = record {
  step = step;
  reply = reply;
  can = can;
  reply_is = said;
  after_taken = taken;
  none =
      subst
      (λ (x : Reference). (o ≡ None)
      ↔ JudgeAgrees x.contents step reply (contents_from_c after)
      (predict_step (layout_from_c l regions) x call.cpu step)) state
      (subst
      (λ (u : Layout). (o ≡ None)
      ↔ JudgeAgrees s.contents step reply (contents_from_c after) (predict_step u s call.cpu step)) layout none);
  first =
      subst
      (λ (x : Reference). IfSome o
      (IsFirstJudged x.contents step reply (contents_from_c after)
      (predict_step (layout_from_c l regions) x call.cpu step))) state
      (subst
      (λ (u : Layout). IfSome o
      (IsFirstJudged s.contents step reply (contents_from_c after) (predict_step u s call.cpu step))) layout first);
}
judged_it l regions t s before call after step reply (Err why) can said layout state taken none first = tt

-- why the call isn't judged, where it could be made
after_fault : (l : PlainLayout) (regions : List PlainRegion) (before : Lists) (call : PlainCall) (after : Lists)
    (step : Step) (why : Unjudged)
    → CanCall l regions before call.cpu call.step step
    → IsSome (reply_from_c call.reply)
    → IsUnjudgedAfter l regions after why
    → IsUnjudged l regions before call after why
after_fault l regions before call after step unjudged.Step can reply h = absurd h
after_fault l regions before call after step unjudged.Reply can reply h = absurd h
after_fault l regions before call after step unjudged.Cpu can reply h = absurd h
after_fault l regions before call after step (unjudged.Before why) can reply h = absurd h
after_fault l regions before call after step unjudged.Generation can reply h = absurd h
after_fault l regions before call after step (unjudged.After why) can reply h = (reply, (step, can), h)
after_fault l regions before call after step unjudged.NoMemory can reply h = tt

pub after_it : {G : Type 0} (l : PlainLayout) (regions : List PlainRegion) (before : Lists) (call : PlainCall)
    (after : Lists) (step : Step) (r : Result G Unjudged)
    → CanCall l regions before call.cpu call.step step
    → IsSome (reply_from_c call.reply)
    → IfErr r (IsUnjudgedAfter l regions after)
    → IfErr r (IsUnjudged l regions before call after)
after_it l regions before call after step (Ok found) can reply h = tt
after_it l regions before call after step (Err why) can reply h =
    after_fault l regions before call after step why can reply h
