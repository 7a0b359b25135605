-- The answer of a call by what it decides.
use Rattle.std.proofs.Common.{◌≡◌, ℕ, ◌<◌, Bool, true, false, Option, Some, None, Ok, Err, refl, ap, ◌∙◌}
use Rattle.std.specs.Prelude.{if◌then◌else◌}
use Rattle.call_table.specs.declared.reply.Refusal.{Refusal}
use Rattle.call_table.specs.declared.reply.Refusal.TheVariants.{NoPool}
use Rattle.call_table.specs.declared.reply.Reply.{Reply}
use Rattle.call_table.specs.declared.reply.Reply.TheVariants.{Done, Refused}
use Rattle.call_table.specs.declared.step.Step.{Step}
use Rattle.page_state.specs.Layouts.{Layout}
use Rattle.page_state.proofs.Cases.{by_test}
use Rattle.reference_model.specs.declared.changes.Changes.{Changes}
use Rattle.reference_model.specs.model.Decides.{decides}
use Rattle.reference_model.specs.help.ChangeLaws.{OnlyUses}
use Rattle.reference_model.specs.model.Changes.{touched}
use Rattle.reference_model.specs.model.Parts.{uses_vms, lacks_slot}
use Rattle.reference_model.specs.model.Rules.{names}
use Rattle.reference_model.specs.model.Step.{or_else, first_test, is_short, changed, rule_of, refusal, fails, with_rows, made, answer}
use Rattle.reference_model.specs.model.Used.{Used}
use Rattle.reference_model.proofs.Answers.{told-err, told-ok}
use Rattle.reference_model.proofs.ChangesUsed.{changes_used}
use Rattle.ghost_spec.specs.Kept.{FitsSlots, IsLowSlot}
use Rattle.ghost_spec.specs.RowsFound.{used_found}
use Rattle.ghost_spec.proofs.RowsAgain.{rows-are}

first-told : (o next : Option Refusal) (why : Refusal) → o ≡ Some why → or_else o next ≡ Some why
first-told (Some found) next why h = h
first-told None next why h = cc

next-told : (o next : Option Refusal) → o ≡ None → or_else o next ≡ next
next-told (Some found) next h = cc
next-told None next h = refl

pair-same : {a b : Reply} {x y : Used} → a ≡ b → x ≡ y → ◌≡◌ {A = Reply × Used} (a, x) (b, y)
pair-same p q = rw (p, q) refl

module _ (l : Layout) (cpu : ℕ) (slot : Option ℕ) (step : Step) (x : Used) where
  -- the answer, by the first test that fails
  abbrev told : Option Refusal → Reply × Used
  told o =
      elim o [
        | Some why ↦ (Refused why, x)
        | None ↦ (Done (rule_of l cpu slot step x).changes.value, made l cpu slot step x)
      ]

  answer-by : (o : Option Refusal) → fails l cpu slot step x ≡ o → answer l cpu slot step x ≡ told o
  unfolding answer
  answer-by o e = ap told e

  fails-first : (why : Refusal)
      → first_test (rule_of l cpu slot step x) (lacks_slot (names step) slot) ≡ Some why
      → fails l cpu slot step x ≡ Some why
  unfolding fails refusal
  fails-first why e = first-told _ _ why e

  fails-next : first_test (rule_of l cpu slot step x) (lacks_slot (names step) slot) ≡ None
      → fails l cpu slot step x ≡ (if is_short l.depth (rule_of l cpu slot step x).changes x then Some NoPool else None)
  unfolding fails refusal
  fails-next e = next-told _ _ e

  pub barred : (why : Refusal) → decides l cpu slot step x ≡ Err why → answer l cpu slot step x ≡ (Refused why, x)
  barred why e =
      answer-by (Some why) (fails-first why (told-err (rule_of l cpu slot step x) (lacks_slot (names step) slot) why e))

  module _ (h : Changes) (e : decides l cpu slot step x ≡ Ok h) where
    uses : OnlyUses (names step) slot h
    uses = changes_used l cpu slot step x h e

    fails-short : fails l cpu slot step x ≡ (if is_short l.depth h x then Some NoPool else None)
    fails-short =
        let t = told-ok (rule_of l cpu slot step x) (lacks_slot (names step) slot) h e in
        fails-next t.0 ∙ ap (λ (g : Changes). if is_short l.depth g x then Some NoPool else None) t.1

    pub lacking : is_short l.depth h x ≡ true → answer l cpu slot step x ≡ (Refused NoPool, x)
    lacking t = answer-by (Some NoPool) (fails-short ∙ ap (λ (b : Bool). if b then Some NoPool else None) t)

    made-is : cpu < l.config.cpus
        → IsLowSlot slot
        → made l cpu slot step x ≡ used_found l (touched h) slot cpu (changed l.depth h x)
    unfolding made
    made-is less low =
        let t = told-ok (rule_of l cpu slot step x) (lacks_slot (names step) slot) h e in
        ap (λ (g : Changes). with_rows l cpu slot step g (changed l.depth g x)) t.1
        ∙ rows-are l cpu slot low step less h (changed l.depth h x) uses.moved

    pub done : cpu < l.config.cpus
        → IsLowSlot slot
        → is_short l.depth h x ≡ false
        → answer l cpu slot step x ≡ (Done h.value, used_found l (touched h) slot cpu (changed l.depth h x))
    done less low t =
        let told = told-ok (rule_of l cpu slot step x) (lacks_slot (names step) slot) h e in
        answer-by None (fails-short ∙ ap (λ (b : Bool). if b then Some NoPool else None) t)
        ∙ pair-same (ap (λ (g : Changes). Done g.value) told.1) (made-is less low)

    -- the changed slot is one of the list, where the VM part is used
    pub fits : (n : ℕ) → FitsSlots 64 h.slot → (uses_vms (names step) ≡ true → n ≡ 64) → FitsSlots n h.slot
    fits n small count = by_test (uses_vms (names step))
        (λ t. let m = count t in rw m small)
        (λ t. let k = uses.vms t in rw k tt)
