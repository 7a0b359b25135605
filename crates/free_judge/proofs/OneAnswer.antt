-- A judgement up to the freedoms has one answer, and the model steps from one state.
use Rattle.std.proofs.Common.{◌≡◌, ℕ, refl, sym, ap, subst, ◌∙◌, inl, inr}
use Rattle.std.specs.Prelude.{◌⊎◌, ◌↔◌, Bool, true, false, Option, Some, None, IfSome, IsTrue}
use Rattle.call_table.specs.declared.reply.Reply.{Reply}
use Rattle.call_table.specs.declared.reply.Reply.TheVariants.{Done, Refused}
use Rattle.call_table.specs.declared.step.Step.{Step}
use Rattle.call_table.specs.declared.step.Step.TheVariants.{HostAbort}
use Rattle.page_state.specs.declared.entry.Entry.TheVariants.{Unmapped}
use Rattle.page_state.proofs.Common.{same-tests}
use Rattle.page_state.specs.Layouts.{Layout}
use Rattle.reference_model.specs.model.State.{Contents}
use Rattle.freedoms.specs.declared.Freedoms.{Freedoms}
use Rattle.freedoms.specs.Ample.{IsWant, WantsAnyMemory, is_done, predict_step_amply}
use Rattle.freedoms.specs.Freedoms.{CountsAs, view}
use Rattle.freedoms.specs.OwnTables.{OwnTables}
use Rattle.ghost_judge.specs.declared.disagreement.Disagreement.{Disagreement}
use Rattle.ghost_judge.specs.declared.disagreement.Disagreement.TheVariants.{Map as MapDiffers, Owner as OwnerDiffers, Reply as ReplyDiffers, SharedPart, GuestPart, Vm, Cpu}
use Rattle.ghost_judge.specs.declared.disagreement.TreeOf.TheVariants.{Host}
use Rattle.ghost_judge.proofs.OneAnswer.{state_else, state_once}
use Rattle.free_judge.specs.Freely.{page_touched, stepped_from, AgreesBy, AgreesFreely, IsFirstBy, IsFirstSeen, IsOtherReply, IsUntouchedBy}
use Rattle.free_judge.specs.Laws.{FirstElse, FirstOnce, JudgedFreelyOnce, PredictedFreelyOnce, ReadyOnce}
use Rattle.free_judge.specs.PoolByRows.{asked_slot, frame_named, with_rows_pool, IsAskedOf}

-- a made call isn't a lack of memory
no_want : (reply : Reply) → is_done reply ≡ true → IsWant reply → ⊥
no_want reply done (inl e) = let bad : false ≡ true = sym (ap is_done e) ∙ done in cc
no_want reply done (inr e) = let bad : false ≡ true = sym (ap is_done e) ∙ done in cc

-- no lack of memory counts as a made call
not_both : (w : Freedoms) (step : Step) (reply told : Reply)
    → WantsAnyMemory step reply told
    → CountsAs w told reply
    → ⊥
not_both w step reply told h (inl e) = no_want reply (ap is_done e ∙ h.made) h.reply_is
not_both w step reply told h (inr p) = let bad : false ≡ true = sym (ap is_done p.1.1) ∙ h.made in cc

-- the page that a host touched

one_page : (o : Option ℕ) (p q : ℕ) → o ≡ Some p → o ≡ Some q → p ≡ q
one_page o p q h k = let same = sym h ∙ k in cc

untouched_once : (w : Freedoms) (step : Step) (reply : Reply) (post wanted : Contents) (d e : Disagreement)
    → IsUntouchedBy w step reply post wanted d
    → IsUntouchedBy w step reply post wanted e
    → d ≡ e
untouched_once w step reply post wanted d e a b =
    a.missing.told_is
    ∙ ap (λ p. MapDiffers Host p Unmapped (wanted.shared.host.map p))
    (one_page (page_touched step reply) a.page b.page a.touched b.touched)
    ∙ sym b.missing.told_is

touched_is : (step : Step) (reply : Reply) (page : ℕ)
    → page_touched step reply ≡ Some page
    → (step ≡ HostAbort page) × (is_done reply ≡ true)
touched_is (HostAbort p) (Done value) page e =
    (ap HostAbort (one_page (page_touched (HostAbort p) (Done value)) p page refl e), refl)
touched_is (HostAbort p) (Refused why) page e = absurd (let bad = e in cc)
touched_is step reply page e = absurd (let bad = e in cc)

-- the first difference

module _ (w : Freedoms) (step : Step) (reply told : Reply) (before after wanted post : Contents) where
  -- it is of replies or of states
  abbrev OfReply : Disagreement → Type 0
  OfReply d =
      (said : Reply) × (spec : Reply) × (d ≡ ReplyDiffers said spec) × IsOtherReply w step reply told said spec

  abbrev OfState : Disagreement → Type 0
  OfState d = IsFirstSeen w step reply told before after wanted post d

  parted : (d : Disagreement) → IsFirstBy w step reply told before after wanted post d → OfReply d ⊎ OfState d
  parted (MapDiffers at an ax ay) h = inr h
  parted (OwnerDiffers an ax ay) h = inr h
  parted (ReplyDiffers ar aq) h = inl (ar, aq, refl, h)
  parted (SharedPart aq) h = inr h
  parted (GuestPart av aq) h = inr h
  parted (Vm av) h = inr h
  parted (Cpu av) h = inr h

  states_once : (d e : Disagreement) → OfState d → OfState e → d ≡ e
  states_once d e (inl a) (inl b) = state_once after before d e a.1 b.1
  states_once d e (inl a) (inr (inl b)) = absurd (not_both w step reply told a.0 b.0)
  states_once d e (inl a) (inr (inr b)) = absurd (not_both w step reply told a.0 b.0)
  states_once d e (inr (inl a)) (inl b) = absurd (not_both w step reply told b.0 a.0)
  states_once d e (inr (inl a)) (inr (inl b)) = state_once after wanted d e a.1 b.1
  states_once d e (inr (inl a)) (inr (inr b)) = absurd (state_else after wanted d b.1 a.1)
  states_once d e (inr (inr a)) (inl b) = absurd (not_both w step reply told b.0 a.0)
  states_once d e (inr (inr a)) (inr (inl b)) = absurd (state_else after wanted e a.1 b.1)
  states_once d e (inr (inr a)) (inr (inr b)) = untouched_once w step reply post wanted d e a.2 b.2

  no_state : (d e : Disagreement) → OfReply d → OfState e → ⊥
  no_state d e a (inl b) = a.3.is_no_want b.0
  no_state d e a (inr (inl b)) = a.3.differ b.0
  no_state d e a (inr (inr b)) = a.3.differ b.0

  parts_once : (d e : Disagreement) → OfReply d ⊎ OfState d → OfReply e ⊎ OfState e → d ≡ e
  parts_once d e (inl a) (inl b) =
      a.2 ∙ ap (λ r. ReplyDiffers r a.1) (a.3.said_is ∙ sym b.3.said_is)
      ∙ ap (ReplyDiffers b.0) (a.3.spec_is ∙ sym b.3.spec_is) ∙ sym b.2
  parts_once d e (inl a) (inr b) = absurd (no_state d e a b)
  parts_once d e (inr a) (inl b) = absurd (no_state e d b a)
  parts_once d e (inr a) (inr b) = states_once d e a b

  no_state_else : (d : Disagreement) → AgreesBy w step reply told before after wanted post → OfState d → ⊥
  no_state_else d h (inl b) =
      elim (h.agrees) [
        | inl p ↦ not_both w step reply told b.0 p.0
        | inr p ↦ state_else after before d p.1 b.1
      ]
  no_state_else d h (inr (inl b)) =
      elim (h.agrees) [
        | inl p ↦ state_else after wanted d p.1 b.1
        | inr p ↦ not_both w step reply told p.0 b.0
      ]
  no_state_else d h (inr (inr b)) =
      let u = b.2 in
      let t = touched_is step reply u.page u.touched in
      let bad : true ≡ false = sym u.missing.unmapped ∙ h.mapped u.lazy u.page t.0 t.1 in cc

  parts_else : (d : Disagreement)
      → AgreesBy w step reply told before after wanted post
      → OfReply d ⊎ OfState d
      → ⊥
  parts_else d h (inl a) = elim (h.agrees) [ inl p ↦ a.3.differ p.0 | inr p ↦ a.3.is_no_want p.0 ]
  parts_else d h (inr b) = no_state_else d h b

pub first_once : FirstOnce
first_once w step reply told before after wanted post d e h k =
    parts_once w step reply told before after wanted post d e
    (parted w step reply told before after wanted post d h)
    (parted w step reply told before after wanted post e k)

pub first_else : FirstElse
first_else w step reply told before after wanted post d a h =
    parts_else w step reply told before after wanted post d a
    (parted w step reply told before after wanted post d h)

-- judgements and predictions

held-once : {X : Type 0} (a b : Bool) → IsTrue a ↔ X → IsTrue b ↔ X → a ≡ b
held-once a b h k = same-tests a b (λ t. k.1 (h.0 t)) (λ t. h.1 (k.0 t))

asked-once : (w : Freedoms) (l : Layout) (seen : Contents) (slot : Option ℕ) (step : Step) (reply : Reply)
    (r s : Contents)
    → IsAskedOf w l seen slot step reply r
    → IsAskedOf w l seen slot step reply s
    → r ≡ s
asked-once w l seen None step reply r s h k = h ∙ sym k
asked-once w l seen (Some v) step reply r s h k =
    h.ready_is
    ∙ ap (λ b. with_rows_pool l v (frame_named step reply) b seen) (held-once h.held k.held h.held_is k.held_is)
    ∙ sym k.ready_is

pub ready_once : ReadyOnce
ready_once w l before cpu step reply r s h k =
    asked-once w l (stepped_from w l before step) (asked_slot (before.cpu cpu) step) step reply r s h k

module _ (w : Freedoms) (l : Layout) (before : Contents) (cpu : ℕ) (step : Step) (reply : Reply)
    (after : Contents) where
  abbrev NoneFrom : Contents → Option Disagreement → Type 0
  NoneFrom r f = (f ≡ None) ↔ AgreesFreely w l before step reply after (predict_step_amply l r cpu step)

  abbrev FirstFrom : Contents → Option Disagreement → Type 0
  FirstFrom r f =
      IfSome f
      (IsFirstBy w step reply (predict_step_amply l r cpu step).0 (view w l before)
      (view w l after) (view w l (predict_step_amply l r cpu step).1) after)

  from_once : (r : Contents) (f g : Option Disagreement)
      → NoneFrom r f
      → FirstFrom r f
      → NoneFrom r g
      → FirstFrom r g
      → f ≡ g
  from_once r None g nf hf ng hg = sym (ng.1 (nf.0 refl))
  from_once r (Some d) None nf hf ng hg = nf.1 (ng.0 refl)
  from_once r (Some d) (Some e) nf hf ng hg = ap Some
      (first_once w step reply (predict_step_amply l r cpu step).0 (view w l before)
      (view w l after) (view w l (predict_step_amply l r cpu step).1) after d e hf hg)

pub judged_freely_once : JudgedFreelyOnce
judged_freely_once w l before cpu step reply after f g a b =
    let same = ready_once w l before cpu step reply a.ready b.ready a.from b.from in
    from_once w l before cpu step reply after b.ready f g
    (subst (λ r. NoneFrom w l before cpu step reply after r f) same a.none)
    (subst (λ r. FirstFrom w l before cpu step reply after r f) same a.first) b.none b.first

pub predicted_freely_once : PredictedFreelyOnce
predicted_freely_once w l before cpu step said r s a b h k =
    let same = ready_once w l before cpu step said h.ready k.ready h.from k.from in (
      h.reply_is ∙ ap (λ (x : Contents). (predict_step_amply l x cpu step).0) same ∙ sym k.reply_is,
      subst (λ (x : Contents). OwnTables a (predict_step_amply l x cpu step).1) same h.contents_are
          ∙ sym k.contents_are,
    )
