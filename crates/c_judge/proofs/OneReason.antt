-- A call that isn't judged by freedoms has one reason.
use Rattle.std.proofs.Common.{◌≡◌, ℕ, refl, sym, ap, subst, ◌∙◌, arith, inl, inr}
use Rattle.std.specs.Prelude.{◌⊎◌, List, Option, Some, None, IsSome}
use Rattle.call_table.specs.declared.step.Step.{Step}
use Rattle.freedoms.specs.declared.Freedoms.{Freedoms}
use Rattle.c_words.specs.Steps.{step_from_c}
use Rattle.c_states.specs.declared.judge.PlainCall.{PlainCall}
use Rattle.c_states.specs.declared.judge.Unjudged.{Unjudged}
use Rattle.c_states.specs.declared.judge.Unjudged.TheVariants as unjudged
use Rattle.c_states.specs.declared.judge.Unmade.{Unmade}
use Rattle.c_states.specs.declared.layout.PlainLayout.{PlainLayout}
use Rattle.c_states.specs.declared.layout.PlainRegion.{PlainRegion}
use Rattle.c_states.specs.Judged.{CanCall, IsUnmade, IsUnpredicted}
use Rattle.c_states.specs.Laws.{LacksMemory, MadeLacksMemory}
use Rattle.c_states.specs.States.{Lists}
use Rattle.c_states.proofs.NoRefusal.{can_else, none_some}
use Rattle.c_states.proofs.OneReason.{either, next, unmade_once, untold_once}
use Rattle.c_judge.specs.declared.found.Unfound.TheVariants.{Freedoms as BadFreedoms, Call}
use Rattle.c_judge.specs.declared.reply.Said.{Said}
use Rattle.c_judge.specs.declared.wanted.FreedomsFault.{FreedomsFault}
use Rattle.c_judge.specs.declared.wanted.FreedomsFault.TheVariants.{Unknown, WithoutOwnTables}
use Rattle.c_judge.specs.Found.{IsUnfoundBy, IsUnfoundExactly, IsUnfoundFreely}
use Rattle.c_judge.specs.Freedoms.{IsFreedomsFault}
use Rattle.c_judge.specs.Laws.{UnfoundOnce}
use Rattle.c_judge.specs.Replies.{said_of}
use Rattle.c_judge.proofs.OneFinding.{taken_else}

fault_once : (n : ℕ) (a b : FreedomsFault) → IsFreedomsFault n a → IsFreedomsFault n b → a ≡ b
fault_once n Unknown Unknown h k = refl
fault_once n Unknown WithoutOwnTables h k = absurd (let less = k.0 in omega (arith, h, less))
fault_once n WithoutOwnTables Unknown h k = absurd (let less = h.0 in omega (arith, less, k))
fault_once n WithoutOwnTables WithoutOwnTables h k = refl

said_some : (o : Option Said) (s : Said) → o ≡ Some s → IsSome o
said_some (Some x) s e = refl
said_some None s e = absurd (let bad = e in cc)

module _ (l : PlainLayout) (regions : List PlainRegion) (before : Lists) (call : PlainCall) (after : Lists) where
  -- of the step, or of the state before it: the reply is read, if the step is
  abbrev OfStep : Unjudged → Type 0
  OfStep why =
      IsUnpredicted l regions before call.cpu call.step why
      × (IsSome (step_from_c call.step) → said_of call.reply ≡ None → ⊥)

  -- of the reply
  abbrev OfReply : Unjudged → Type 0
  OfReply why = (why ≡ unjudged.Reply) × IsSome (step_from_c call.step) × (said_of call.reply ≡ None)

  -- of the state after it
  record OfAfter (why : Unjudged) : Type 0 where
    other : Unmade
    is : why ≡ unjudged.After other
    says : IsSome (said_of call.reply)
    step : Step
    can : CanCall l regions before call.cpu call.step step
    unmade : IsUnmade l regions after other

  abbrev Reason : Unjudged → Type 0
  Reason why = LacksMemory why ⊎ (OfStep why ⊎ (OfReply why ⊎ OfAfter why))

  after_lacks : (why : Unjudged) (other : Unmade) → why ≡ unjudged.After other → MadeLacksMemory other → LacksMemory why
  after_lacks why other e m = subst LacksMemory (sym e) m

  after_same : (f g : Unjudged) (a b : Unmade) → f ≡ unjudged.After a → g ≡ unjudged.After b → a ≡ b → f ≡ g
  after_same f g a b h k e = h ∙ ap unjudged.After e ∙ sym k

  reason_once : (f g : Unjudged) → Reason f → Reason g → LacksMemory f ⊎ (LacksMemory g ⊎ (f ≡ g))
  reason_once f g (inl a) b = inl a
  reason_once f g (inr a) (inl b) = inr (inl b)
  reason_once f g (inr (inl a)) (inr (inl b)) = untold_once l regions before call.cpu call.step f g a.0 b.0
  reason_once f g (inr (inl a)) (inr (inr (inl b))) = absurd (a.1 b.1 b.2)
  reason_once f g (inr (inl a)) (inr (inr (inr b))) =
      inl (can_else l regions before call.cpu call.step b.step f b.can a.0)
  reason_once f g (inr (inr (inl a))) (inr (inl b)) = absurd (b.1 a.1 a.2)
  reason_once f g (inr (inr (inl a))) (inr (inr (inl b))) = inr (inr (a.0 ∙ sym b.0))
  reason_once f g (inr (inr (inl a))) (inr (inr (inr b))) = absurd (none_some (said_of call.reply) a.2 b.says)
  reason_once f g (inr (inr (inr a))) (inr (inl b)) =
      inr (inl (can_else l regions before call.cpu call.step a.step g a.can b.0))
  reason_once f g (inr (inr (inr a))) (inr (inr (inl b))) = absurd (none_some (said_of call.reply) b.2 a.says)
  reason_once f g (inr (inr (inr a))) (inr (inr (inr b))) =
      either (after_lacks f a.other a.is)
      (next (after_lacks g b.other b.is) (after_same f g a.other b.other a.is b.is))
      (unmade_once l regions after a.other b.other a.unmade b.unmade)

  said_else : IsSome (said_of call.reply) → IsSome (step_from_c call.step) → said_of call.reply ≡ None → ⊥
  said_else says step none = none_some (said_of call.reply) none says

  exact_reason : (why : Unjudged) → IsUnfoundExactly l regions before call after why → Reason why
  exact_reason unjudged.Step h = inr (inl (h, λ step none. none_some (step_from_c call.step) h step))
  exact_reason unjudged.Reply h = inr (inr (inl (refl, h.0, h.1)))
  exact_reason unjudged.Cpu h = inr (inl (elim (h.1) [ inl u ↦ u.1 | inr u ↦ u ], said_else h.0))
  exact_reason (unjudged.Before why) h = inr (inl (elim (h.1) [ inl u ↦ u.1 | inr u ↦ u ], said_else h.0))
  exact_reason unjudged.Generation h = inr (inl (elim (h.1) [ inl u ↦ u.1 | inr u ↦ u ], said_else h.0))
  exact_reason (unjudged.After why) h =
      elim (h.1) [
        | inl u ↦
            inr
            (inr
            (inr (record { other = why; is = refl; says = h.0; step = u.1.0; can = u.1.1; unmade = u.2 })))
        | inr u ↦ absurd u
      ]
  exact_reason unjudged.NoMemory h = inl tt

  free_reason : (w : Freedoms) (why : Unjudged) → IsUnfoundFreely w l regions before call after why → Reason why
  free_reason w unjudged.Step h = inr (inl (h, λ step none. none_some (step_from_c call.step) h step))
  free_reason w unjudged.Reply h = inr (inr (inl (refl, h.0, h.1)))
  free_reason w unjudged.Cpu h = inr (inl (h.1, said_else h.0))
  free_reason w (unjudged.Before why) h = inr (inl (h.1, said_else h.0))
  free_reason w unjudged.Generation h = inr (inl (h.1, said_else h.0))
  free_reason w (unjudged.After why) h =
      inr
      (inr
      (inr
      (record {
        other = why;
        is = refl;
        says = said_some (said_of call.reply) h.0.0 h.0.1;
        step = h.1.0;
        can = h.1.1;
        unmade = h.2;
      })))
  free_reason w unjudged.NoMemory h = inl tt

  reason_by : (o : Option Freedoms) (why : Unjudged) → IsUnfoundBy l regions before call after o why → Reason why
  reason_by None why h = exact_reason why h
  reason_by (Some w) why h = free_reason w why h

pub unfound_once : UnfoundOnce
unfound_once l regions before call after (BadFreedoms a) (BadFreedoms b) h k =
    inr (inr (ap BadFreedoms (fault_once l.freedoms a b h k)))
unfound_once l regions before call after (BadFreedoms a) (Call g) h k =
    absurd (taken_else l.freedoms k.0 a k.1 h)
unfound_once l regions before call after (Call f) (BadFreedoms b) h k =
    absurd (taken_else l.freedoms h.0 b h.1 k)
unfound_once l regions before call after (Call f) (Call g) h k =
    either (λ x. x) (next (λ x. x) (ap Call))
    (reason_once l regions before call after f g (reason_by l regions before call after h.0 f h.2)
    (reason_by l regions before call after k.0 g k.2))
