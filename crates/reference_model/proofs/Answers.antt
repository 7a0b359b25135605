-- How code comes to the reference step.
use Rattle.std.proofs.Common.{◌≡◌, ℕ, refl, sym, ◌∙◌, subst, inl, inr}
use Rattle.std.specs.Prelude.{Bool, true, false, ◌||◌, if◌then◌else◌, Option, Some, None, Result, Ok, Err, not}
use Rattle.call_table.specs.declared.reply.Refusal.{Refusal}
use Rattle.call_table.specs.declared.reply.Refusal.TheVariants.{Perm, NoVm, Busy, Invalid, NoPool}
use Rattle.reference_model.specs.declared.changes.Changes.{Changes}
use Rattle.call_table.specs.declared.reply.Reply.{Reply}
use Rattle.call_table.specs.declared.reply.Reply.TheVariants.{Refused}
use Rattle.reference_model.specs.model.History.{IsStored}
use Rattle.call_table.specs.declared.step.Step.{Step}
use Rattle.page_state.specs.Layouts.{Layout}
use Rattle.reference_model.specs.model.Parts.{lacks_slot}
use Rattle.reference_model.specs.model.Rules.{names}
use Rattle.reference_model.specs.help.RowChanges.{with_touched_rows}
use Rattle.reference_model.specs.model.Rule.{Rule}
use Rattle.reference_model.specs.model.Used.{Used, used_of}
use Rattle.reference_model.specs.help.Answers.{CarriesOut, BarredAnswers, CarriedAnswers, AnswerSteps, FullSteps, UsedSteps}
use Rattle.reference_model.specs.model.Decides.{decided}
use Rattle.reference_model.specs.model.Step.{or_else, first_test, refusal, rule_of, fails, made, changed, Answered}
use Rattle.reference_model.proofs.conditions.Keeps.{touched_rows}
use Rattle.page_state.proofs.Common.{if-true, if-false}

first-told : (o rest : Option Refusal) (why : Refusal) → o ≡ Some why → or_else o rest ≡ Some why
first-told (Some found) rest why h = h
first-told None rest why h = cc

next-told : (o rest : Option Refusal) → o ≡ None → or_else o rest ≡ rest
next-told (Some found) rest h = cc
next-told None rest h = refl

abbrev result-of : Rule → Option Refusal → Result Changes Refusal
result-of r o = elim o [ Some why ↦ Err why | None ↦ Ok r.changes ]

pub told-err : (r : Rule) (lacks : Bool) (why : Refusal) → decided r lacks ≡ Err why → first_test r lacks ≡ Some why
told-err r lacks why h = go (first_test r lacks) h
  where
    go : (o : Option Refusal) → result-of r o ≡ Err why → o ≡ Some why
    go (Some found) e = cc
    go None e = cc

pub told-ok : (r : Rule) (lacks : Bool) (h : Changes)
    → decided r lacks ≡ Ok h
    → (first_test r lacks ≡ None) × (r.changes ≡ h)
told-ok r lacks h k = go (first_test r lacks) k
  where
    go : (o : Option Refusal) → result-of r o ≡ Ok h → (o ≡ None) × (r.changes ≡ h)
    go (Some found) e = cc
    go None e = (refl, cc)

pub barred_answers : BarredAnswers
unfolding fails refusal
barred_answers l cpu slot step wants x why h =
    inr
    (inl
    (record {
      why = why;
      fail =
          first-told _ _ why (told-err (rule_of l cpu slot step x) (lacks_slot (names step) slot) why h);
      reply_is = refl;
      next = refl;
    }))

module _ (l : Layout) (cpu : ℕ) (slot : Option ℕ) (step : Step) (wants : Bool) (reply : Reply) (x y : Used)
    (free : first_test (rule_of l cpu slot step x) (lacks_slot (names step) slot) ≡ None) where
  -- the rule's changes, where a made step's rows are told by them
  pub carried-by :
      (fails l cpu slot step x ≡ None
      → made l cpu slot step x
      ≡ with_touched_rows l cpu slot (rule_of l cpu slot step x).changes
      (changed l.depth (rule_of l cpu slot step x).changes x))
      → CarriesOut l cpu slot step wants (rule_of l cpu slot step x).changes x reply y
      → Answered l cpu slot step wants x reply y
  unfolding fails refusal
  carried-by rows (inl p) =
      let passes = next-told _ _ free ∙ if-false _ (Some NoPool) None p.enough in
      inl (record { passes = passes; reply_is = p.reply_is; next = p.next ∙ sym (rows passes) })
  carried-by rows (inr (inl p)) =
      inr
      (inl
      (record {
        why = NoPool;
        fail = next-told _ _ free
            ∙ if-true _ (Some NoPool) None p.short;
        reply_is = p.reply_is;
        next = p.next;
      }))
  carried-by rows (inr (inr p)) =
      inr
      (inr
      (record {
        passes = next-told _ _ free
            ∙ if-false _ (Some NoPool) None p.enough;
        grows =
            p.grows;
        wanted = p.wanted;
        reply_is = p.reply_is;
        next = p.next;
      }))

pub carried_answers : CarriedAnswers
carried_answers l s cpu slot step wants h reply y usable legal known named k out =
    let x = used_of (names step) slot cpu s in
    let t = told-ok (rule_of l cpu slot step x) (lacks_slot (names step) slot) h k in
    carried-by l cpu slot step wants reply x y t.0 (touched_rows l s cpu slot step usable known legal named)
    (subst (λ c. CarriesOut l cpu slot step wants c x reply y) (sym t.1) out)

pub answer_steps : AnswerSteps
answer_steps l c wants x r y slot number room (inl p) =
    record { slot = slot; number = number; answers = inr (record { room = room; answered = inl p; rooms = refl }) }
answer_steps l c wants x r y slot number room (inr (inl p)) =
    record {
      slot = slot;
      number = number;
      answers = inr (record { room = room; answered = inr (inl p); rooms = refl });
    }
answer_steps l c wants x r y slot number room (inr (inr p)) =
    record {
      slot = slot;
      number = number;
      answers =
          inr
          (record {
            room = room;
            answered =
                inr
                (inr
                (record {
                  passes = p.passes;
                  grows = p.grows;
                  wanted = refl;
                  reply_is = p.reply_is;
                  next = p.next;
                }));
            rooms = refl;
          });
    }

pub full_steps : FullSteps
full_steps l c x r slot number full reply =
    record {
      slot = slot;
      number = number;
      answers = inl (record { full = full; reply = reply; next = refl; rooms = refl });
    }

pub used_steps : UsedSteps
used_steps l s c y q on = record { after = y; left = q; on = on; next = refl }

-- replies that are stored

stored-test : (b : Bool) (why : Refusal) (rest : Option Refusal)
    → IsStored (Refused why)
    → ((w : Refusal) → rest ≡ Some w → IsStored (Refused w))
    → (w : Refusal)
    → (if b then Some why else rest) ≡ Some w
    → IsStored (Refused w)
stored-test true why rest k m w e = let same : why ≡ w = cc in subst (λ u. IsStored (Refused u)) same k
stored-test false why rest k m w e = m w e

none-stored : (w : Refusal) → None ≡ Some w → IsStored (Refused w)
none-stored w e = cc

-- the refusals of tests are stored
pub test-stored : (r : Rule) (lacks : Bool) (w : Refusal) → first_test r lacks ≡ Some w → IsStored (Refused w)
test-stored r lacks =
    stored-test (not r.valid.passes) Invalid _ tt
    (stored-test (lacks || not r.has_vm.passes) NoVm _ tt
    (stored-test (not r.ready.passes) Busy _ tt (stored-test (not r.allowed.passes) Perm None tt none-stored)))

fail-stored : (o : Option Refusal) (short : Bool) (w : Refusal)
    → ((v : Refusal) → o ≡ Some v → IsStored (Refused v))
    → or_else o (if short then Some NoPool else None) ≡ Some w
    → IsStored (Refused w)
fail-stored (Some found) short w h e = h w e
fail-stored None short w h e = stored-test short NoPool None tt none-stored w e

-- an answer is stored
pub answer-stored : (l : Layout) (cpu : ℕ) (slot : Option ℕ) (step : Step) (wants : Bool) (x : Used) (reply : Reply)
    (y : Used)
    → Answered l cpu slot step wants x reply y
    → IsStored reply
unfolding fails refusal
answer-stored l cpu slot step wants x reply y (inl p) = subst IsStored (sym p.reply_is) tt
answer-stored l cpu slot step wants x reply y (inr (inl p)) =
    subst IsStored (sym p.reply_is)
    (fail-stored (first_test (rule_of l cpu slot step x) (lacks_slot (names step) slot)) _ p.why
    (test-stored (rule_of l cpu slot step x) (lacks_slot (names step) slot)) p.fail)
answer-stored l cpu slot step wants x reply y (inr (inr p)) = subst IsStored (sym p.reply_is) tt
