-- A judgement by freedoms has one answer, and a call that is judged isn't refused.
use Rattle.std.proofs.Common.{◌≡◌, ℕ, ◌%◌, refl, sym, ap, subst, ◌∙◌, arith, inl, inr}
use Rattle.std.specs.Prelude.{◌↔◌, ◌==◌, Bool, true, false, List, Option, Some, None, IfSome, is_some, if◌then◌else◌, option_map}
use Rattle.std.proofs.lemmas.Bool.Decides.{nat_tests}
use Rattle.call_table.specs.declared.reply.Reply.{Reply}
use Rattle.call_table.specs.declared.reply.Reply.TheVariants.{Done, Refused}
use Rattle.call_table.specs.declared.reply.Refusal.TheVariants.{Contended}
use Rattle.call_table.specs.declared.reply.Value.{Value}
use Rattle.call_table.specs.declared.reply.Value.TheVariants.{Nothing}
use Rattle.call_table.specs.declared.step.Step.{Step}
use Rattle.page_state.specs.Layouts.{Layout}
use Rattle.reference_model.specs.model.State.{Contents}
use Rattle.freedoms.specs.declared.Freedoms.{Freedoms}
use Rattle.free_judge.proofs.OneAnswer.{judged_freely_once, predicted_freely_once}
use Rattle.ghost_judge.specs.declared.disagreement.Disagreement.{Disagreement}
use Rattle.ghost_judge.specs.Judgements.{IsFirstJudged, JudgeAgrees}
use Rattle.ghost_judge.proofs.OneAnswer.{judged_once}
use Rattle.c_words.specs.Numbers.{refusal_from_c}
use Rattle.c_words.specs.Said.{reply_from_c, value_from_c}
use Rattle.c_words.specs.declared.reply.PlainReply.{PlainReply}
use Rattle.c_words.specs.Steps.{step_from_c}
use Rattle.c_states.specs.declared.judge.PlainCall.{PlainCall}
use Rattle.c_states.specs.declared.judge.Unjudged.{Unjudged}
use Rattle.c_states.specs.declared.judge.Unjudged.TheVariants as unjudged
use Rattle.c_states.specs.declared.judge.Unmade.{Unmade}
use Rattle.c_states.specs.declared.layout.PlainLayout.{PlainLayout}
use Rattle.c_states.specs.declared.layout.PlainRegion.{PlainRegion}
use Rattle.c_states.specs.Judged.{prediction_from_c, CanCall, IsJudged, IsUnmade}
use Rattle.c_states.specs.Laws.{LacksMemory, MadeLacksMemory}
use Rattle.c_states.specs.Layouts.{layout_from_c}
use Rattle.c_states.specs.States.{Lists, contents_from_c}
use Rattle.c_states.proofs.NoRefusal.{can_else, made_else, none_some, one_step, unknown_else}
use Rattle.c_judge.specs.declared.found.Found.{Found}
use Rattle.c_judge.specs.declared.found.Found.TheVariants as found
use Rattle.c_judge.specs.declared.found.Unfound.TheVariants.{Freedoms as BadFreedoms, Call}
use Rattle.c_judge.specs.declared.reply.Said.{Said}
use Rattle.c_judge.specs.declared.reply.Said.TheVariants as said
use Rattle.c_judge.specs.declared.wanted.FreedomsFault.{FreedomsFault}
use Rattle.c_judge.specs.declared.wanted.FreedomsFault.TheVariants.{Unknown, WithoutOwnTables}
use Rattle.c_judge.specs.Found.{differs, is_compared, renamed, IsCompared, IsFoundBy, IsFoundExactly, IsFoundExactlyOf, IsFoundFreely, IsFoundOf, IsModelReply, IsModelReplyOnly, IsUnfoundBy, IsUnfoundExactly, IsUnfoundFreely}
use Rattle.c_judge.specs.Freedoms.{IsFreedomsFault, IsTakenAs}
use Rattle.c_judge.specs.Laws.{FoundElse, FoundOnce}
use Rattle.c_judge.specs.Replies.{known_or, said_of}

-- freedoms

odd : (n : ℕ) → n ≡ 0 → n % 2 ≡ 1 → ⊥
odd n h k = let bad = sym (ap (λ (m : ℕ). m % 2) h) ∙ k in cc

pub freedoms_once : (n : ℕ) (a b : Option Freedoms) → IsTakenAs n a → IsTakenAs n b → a ≡ b
freedoms_once n None None h k = refl
freedoms_once n None (Some w) h k = absurd (odd n h k.1)
freedoms_once n (Some v) None h k = absurd (odd n k h.1)
freedoms_once n (Some v) (Some w) h k = ap Some (h.2 ∙ sym k.2)

pub taken_else : (n : ℕ) (o : Option Freedoms) (fault : FreedomsFault) → IsTakenAs n o → IsFreedomsFault n fault → ⊥
taken_else n None Unknown h k = omega (arith, h, k)
taken_else n None WithoutOwnTables h k = k.1 h
taken_else n (Some w) Unknown h k = let less = h.0 in omega (arith, less, k)
taken_else n (Some w) WithoutOwnTables h k = let bad = sym k.2 ∙ h.1 in cc

-- what a reply says

pub one_of : {X : Type 0} (o : Option X) (a b : X) → o ≡ Some a → o ≡ Some b → a ≡ b
one_of o a b h k = let same = sym h ∙ k in cc

refused_unknown : (b : Bool) (n m : ℕ) (o : Option Reply)
    → (if b then Some said.Stopped else known_or n o) ≡ Some (said.Refusal m)
    → o ≡ None
refused_unknown true n m o e = absurd (let bad = e in cc)
refused_unknown false n m None e = refl
refused_unknown false n m (Some r) e = absurd (let bad = e in cc)

stopped_unknown : (b : Bool) (n : ℕ) (o : Option Reply)
    → (b ≡ true → o ≡ None)
    → (if b then Some said.Stopped else known_or n o) ≡ Some said.Stopped
    → o ≡ None
stopped_unknown true n o h e = h refl
stopped_unknown false n None h e = refl
stopped_unknown false n (Some r) h e = absurd (let bad = e in cc)

-- no refusal has the number of a stop
no_number : (n : ℕ) (o : Option Value)
    → n ≡ 65536
    → (if n == 0 then option_map Done o else option_map Refused (refusal_from_c n)) ≡ None
no_number n o e =
    subst (λ (m : ℕ). (if m == 0 then option_map Done o else option_map Refused (refusal_from_c m)) ≡ None)
    (sym e) refl

same_number : (n m : ℕ) → (n == m) ≡ true → n ≡ m
same_number n m e = grind (arith, nat_tests)

no_refusal_known : (r : PlainReply) (n : ℕ) → said_of r ≡ Some (said.Refusal n) → reply_from_c r ≡ None
no_refusal_known r n e = refused_unknown (r.refusal == 65536) r.refusal n (reply_from_c r) e

no_stop_known : (r : PlainReply) → said_of r ≡ Some said.Stopped → reply_from_c r ≡ None
no_stop_known r e =
    stopped_unknown (r.refusal == 65536) r.refusal (reply_from_c r)
    (λ s. no_number r.refusal (value_from_c r) (same_number r.refusal 65536 s)) e

-- judged exactly

module _ (l : PlainLayout) (regions : List PlainRegion) (before : Lists) (call : PlainCall) (after : Lists) where
  abbrev NoneOf : Option Disagreement → Step → Reply → Type 0
  NoneOf f t r =
      (f ≡ None)
      ↔ JudgeAgrees (contents_from_c before) t r (contents_from_c after)
      (prediction_from_c l regions before call.cpu t)

  abbrev FirstOf : Option Disagreement → Step → Reply → Type 0
  FirstOf f t r =
      IfSome f
      (IsFirstJudged (contents_from_c before) t r (contents_from_c after)
      (prediction_from_c l regions before call.cpu t))

  lists_of : (t : Step) (r : Reply) (f g : Option Disagreement)
      → NoneOf f t r
      → FirstOf f t r
      → NoneOf g t r
      → FirstOf g t r
      → f ≡ g
  lists_of t r None g nf hf ng hg = sym (ng.1 (nf.0 refl))
  lists_of t r (Some d) None nf hf ng hg = nf.1 (ng.0 refl)
  lists_of t r (Some d) (Some e) nf hf ng hg =
      ap Some
      (judged_once (contents_from_c before) t r (contents_from_c after)
      (prediction_from_c l regions before call.cpu t) d e hf hg)

  lists_once : (f g : Option Disagreement)
      → IsJudged l regions before call after f
      → IsJudged l regions before call after g
      → f ≡ g
  lists_once f g x y =
      let same = one_step call.step x.step y.step x.can.step_is y.can.step_is in
      let one = one_of (reply_from_c call.reply) x.reply y.reply x.reply_is y.reply_is in
      lists_of y.step y.reply f g
      (subst (λ (r : Reply). NoneOf f y.step r) one (subst (λ (t : Step). NoneOf f t x.reply) same x.none))
      (subst (λ (r : Reply). FirstOf f y.step r) one (subst (λ (t : Step). FirstOf f t x.reply) same x.first))
      y.none y.first

  model_once : (r s : Reply)
      → IsModelReply l regions before call.cpu call.step r
      → IsModelReply l regions before call.cpu call.step s
      → r ≡ s
  model_once r s h k =
      h.reply_is
      ∙ ap (λ (t : Step). (prediction_from_c l regions before call.cpu t).0)
      (one_step call.step h.step k.step h.can.step_is k.can.step_is)
      ∙ sym k.reply_is

  exactly_of : (says : Said) (f g : Option Found)
      → IsFoundExactlyOf l regions before call after says f
      → IsFoundExactlyOf l regions before call after says g
      → f ≡ g
  exactly_of (said.Known reply) f g h k =
      h.2 ∙ ap (option_map differs) (lists_once h.0 k.0 h.1 k.1) ∙ sym k.2
  exactly_of (said.Refusal n) f g h k =
      h.2 ∙ ap (λ (r : Reply). Some (found.Refusal n r)) (model_once h.0 k.0 h.1 k.1) ∙ sym k.2
  exactly_of said.Stopped f g h k =
      h.2 ∙ ap (λ (r : Reply). Some (found.Stopped r)) (model_once h.0 k.0 h.1 k.1) ∙ sym k.2

  exactly_once : (f g : Option Found)
      → IsFoundExactly l regions before call after f
      → IsFoundExactly l regions before call after g
      → f ≡ g
  exactly_once f g h k =
      exactly_of k.says f g
      (subst (λ (s : Said). IsFoundExactlyOf l regions before call after s f)
      (one_of (said_of call.reply) h.says k.says h.says_is k.says_is) h.found_is) k.found_is

  -- it could be made
  made_of : (says : Said) (f : Option Found)
      → IsFoundExactlyOf l regions before call after says f
      → (step : Step) × CanCall l regions before call.cpu call.step step
  made_of (said.Known reply) f h = (h.1.step, h.1.can)
  made_of (said.Refusal n) f h = (h.1.step, h.1.can)
  made_of said.Stopped f h = (h.1.step, h.1.can)

  late_of : (says : Said) (f : Option Found) (why : Unmade)
      → said_of call.reply ≡ Some says
      → IsFoundExactlyOf l regions before call after says f
      → is_some (reply_from_c call.reply) ≡ true
      → IsUnmade l regions after why
      → MadeLacksMemory why
  late_of (said.Known reply) f why e h known u = made_else l regions after why h.1.can.layout h.1.after_taken u
  late_of (said.Refusal n) f why e h known u =
      absurd (none_some (reply_from_c call.reply) (no_refusal_known call.reply n e) known)
  late_of said.Stopped f why e h known u =
      absurd (none_some (reply_from_c call.reply) (no_stop_known call.reply e) known)

  exactly_else : (f : Option Found) (why : Unjudged)
      → IsFoundExactly l regions before call after f
      → IsUnfoundExactly l regions before call after why
      → LacksMemory why
  exactly_else f unjudged.Step h k =
      let c = made_of h.says f h.found_is in
      absurd (unknown_else (step_from_c call.step) c.0 k c.1.step_is)
  exactly_else f unjudged.Reply h k = absurd (unknown_else (said_of call.reply) h.says k.1 h.says_is)
  exactly_else f unjudged.Cpu h k =
      let c = made_of h.says f h.found_is in
      can_else l regions before call.cpu call.step c.0 unjudged.Cpu c.1 (elim (k.1) [ inl u ↦ u.1 | inr u ↦ u ])
  exactly_else f (unjudged.Before why) h k =
      let c = made_of h.says f h.found_is in
      can_else l regions before call.cpu call.step c.0 (unjudged.Before why) c.1
      (elim (k.1) [ inl u ↦ u.1 | inr u ↦ u ])
  exactly_else f unjudged.Generation h k =
      let c = made_of h.says f h.found_is in
      can_else l regions before call.cpu call.step c.0 unjudged.Generation c.1
      (elim (k.1) [ inl u ↦ u.1 | inr u ↦ u ])
  exactly_else f (unjudged.After why) h k =
      elim (k.1) [
        | inl u ↦ late_of h.says f why h.says_is h.found_is u.0 u.2
        | inr u ↦ absurd u
      ]
  exactly_else f unjudged.NoMemory h k = tt

-- judged up to freedoms

module _ (w : Freedoms) (m : Layout) (cpus : ℕ) (s : Contents) (cpu : ℕ) (step : Step)
    (after : Lists) where
  compared_once : (reply : Reply) (a b : Option Disagreement)
      → IsCompared w m cpus s cpu step reply after a
      → IsCompared w m cpus s cpu step reply after b
      → a ≡ b
  compared_once reply a b h k =
      judged_freely_once w m s cpu step reply (contents_from_c after) a b h.judged k.judged

  only_once : (r t : Reply)
      → IsModelReplyOnly w m s cpu step r
      → IsModelReplyOnly w m s cpu step t
      → r ≡ t
  only_once r t h k = (predicted_freely_once w m s cpu step (Done Nothing) r t h.0 k.0 h.1 k.1).0

  freely_of : (says : Said) (f g : Option Found)
      → IsFoundOf w m cpus s cpu step says after f
      → IsFoundOf w m cpus s cpu step says after g
      → f ≡ g
  freely_of (said.Known reply) f g h k =
      h.2 ∙ ap (option_map differs) (compared_once reply h.0 k.0 h.1 k.1) ∙ sym k.2
  freely_of (said.Refusal n) f g (inl h) (inl k) =
      h.1.2 ∙ ap (option_map (renamed n)) (compared_once (Refused Contended) h.1.0 k.1.0 h.1.1 k.1.1) ∙ sym k.1.2
  freely_of (said.Refusal n) f g (inl h) (inr k) = absurd (let bad : true ≡ false = sym h.0 ∙ k.0 in cc)
  freely_of (said.Refusal n) f g (inr h) (inl k) = absurd (let bad : true ≡ false = sym k.0 ∙ h.0 in cc)
  freely_of (said.Refusal n) f g (inr h) (inr k) =
      h.1.2 ∙ ap (λ (r : Reply). Some (found.Refusal n r)) (only_once h.1.0 k.1.0 h.1.1 k.1.1) ∙ sym k.1.2
  freely_of said.Stopped f g h k =
      h.2 ∙ ap (λ (r : Reply). Some (found.Stopped r)) (only_once h.0 k.0 h.1 k.1) ∙ sym k.2

module _ (w : Freedoms) (l : PlainLayout) (regions : List PlainRegion) (before : Lists) (call : PlainCall)
    (after : Lists) where
  abbrev OfStep : Step → Said → Option Found → Type 0
  OfStep t s f = IsFoundOf w (layout_from_c l regions) l.cpus (contents_from_c before) call.cpu t s after f

  freely_once : (f g : Option Found)
      → IsFoundFreely w l regions before call after f
      → IsFoundFreely w l regions before call after g
      → f ≡ g
  freely_once f g h k =
      freely_of w (layout_from_c l regions) l.cpus (contents_from_c before) call.cpu k.step
      after k.says f g
      (subst (λ (s : Said). OfStep k.step s f)
      (one_of (said_of call.reply) h.says k.says h.says_is k.says_is)
      (subst (λ (t : Step). OfStep t h.says f)
      (one_step call.step h.step k.step h.can.step_is k.can.step_is) h.found_is)) k.found_is

  compared_else : (t : Step) (s : Said) (f : Option Found) (why : Unmade)
      → CanCall l regions before call.cpu call.step t
      → OfStep t s f
      → is_compared w s ≡ true
      → IsUnmade l regions after why
      → MadeLacksMemory why
  compared_else t (said.Known reply) f why can h is u = made_else l regions after why can.layout h.1.taken u
  compared_else t (said.Refusal n) f why can (inl h) is u = made_else l regions after why can.layout h.1.1.taken u
  compared_else t (said.Refusal n) f why can (inr h) is u = absurd (let bad : true ≡ false = sym is ∙ h.0 in cc)
  compared_else t said.Stopped f why can h is u = absurd (let bad : false ≡ true = is in cc)

  freely_else : (f : Option Found) (why : Unjudged)
      → IsFoundFreely w l regions before call after f
      → IsUnfoundFreely w l regions before call after why
      → LacksMemory why
  freely_else f unjudged.Step h k = absurd (unknown_else (step_from_c call.step) h.step k h.can.step_is)
  freely_else f unjudged.Reply h k = absurd (unknown_else (said_of call.reply) h.says k.1 h.says_is)
  freely_else f unjudged.Cpu h k = can_else l regions before call.cpu call.step h.step unjudged.Cpu h.can k.1
  freely_else f (unjudged.Before why) h k =
      can_else l regions before call.cpu call.step h.step (unjudged.Before why) h.can k.1
  freely_else f unjudged.Generation h k =
      can_else l regions before call.cpu call.step h.step unjudged.Generation h.can k.1
  freely_else f (unjudged.After why) h k =
      let same = one_of (said_of call.reply) k.0.0 h.says k.0.1 h.says_is in
      compared_else h.step h.says f why h.can h.found_is
      (subst (λ (s : Said). is_compared w s ≡ true) same k.0.2) k.2
  freely_else f unjudged.NoMemory h k = tt

-- judged

module _ (l : PlainLayout) (regions : List PlainRegion) (before : Lists) (call : PlainCall) (after : Lists) where
  by_once : (o : Option Freedoms) (f g : Option Found)
      → IsFoundBy l regions before call after o f
      → IsFoundBy l regions before call after o g
      → f ≡ g
  by_once None f g h k = exactly_once l regions before call after f g h k
  by_once (Some w) f g h k = freely_once w l regions before call after f g h k

  by_else : (o : Option Freedoms) (f : Option Found) (why : Unjudged)
      → IsFoundBy l regions before call after o f
      → IsUnfoundBy l regions before call after o why
      → LacksMemory why
  by_else None f why h k = exactly_else l regions before call after f why h k
  by_else (Some w) f why h k = freely_else w l regions before call after f why h k

pub found_once : FoundOnce
found_once l regions before call after f g h k =
    by_once l regions before call after k.freedoms f g
    (subst (λ (o : Option Freedoms). IsFoundBy l regions before call after o f)
    (freedoms_once l.freedoms h.freedoms k.freedoms h.taken k.taken) h.judged) k.judged

pub found_else : FoundElse
found_else l regions before call after f (BadFreedoms fault) h k =
    absurd (taken_else l.freedoms h.freedoms fault h.taken k)
found_else l regions before call after f (Call why) h k =
    by_else l regions before call after k.0 f why
    (subst (λ (o : Option Freedoms). IsFoundBy l regions before call after o f)
    (freedoms_once l.freedoms h.freedoms k.0 h.taken k.1) h.judged) k.2
