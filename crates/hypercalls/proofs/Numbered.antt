-- A step of a CPU by its number, which its own state has.
use Rattle.std.proofs.Common.{◌≡◌, ◌∙◌, ◌⊎◌, inl, inr, refl, ◌∷◌, [], ◌++◌, ◌+◌, zero, suc, ℕ, true, false, length, slice_get, slice_set, List, Option, Some, sym, ap, subst, if◌then◌else◌}
use Rattle.page_state.proofs.Cases.{by_eq}
use Rattle.call_table.specs.declared.reply.Call.{Call}
use Rattle.call_table.specs.declared.reply.Refusal.TheVariants.{NoMemory}
use Rattle.call_table.specs.declared.reply.Reply.{Reply}
use Rattle.call_table.specs.declared.reply.Reply.TheVariants.{Refused}
use Rattle.call_table.specs.declared.step.Step.{Step}
use Rattle.page_state.specs.Layouts.{Layout}
use Rattle.reference_model.specs.model.History.{IsStored}
use Rattle.reference_model.specs.model.Step.{StepsOn}
use Rattle.part_types.specs.declared.parts.CpuState.{CpuState}
use Rattle.part_types.specs.Lent.{Lent, all_with, logs_in, rooms_in, slot_in, used_in}
use Rattle.part_types.specs.Numbers.{AreNumbered}
use Rattle.hypercalls.specs.Steps.{CanWantOn, IsStepOn, any_full, reply_in}
use Rattle.hypercalls.proofs.Places.{kept, written, get_inside}

abbrev pub call_at : {A : Type 0} → Lent A → ℕ → Step → Reply → Call
call_at x id step reply =
    record { cpu = id; number = length x.cpu.log.calls + 1; step = step; reply = reply; slot = slot_in x step }

pub record IsStepAt {A : Type 0} (l : Layout) (id : ℕ) (step : Step) (x : Lent A) (made : Option Call)
    (y : Lent A) : Type 0 where
  pub on : StepsOn l (call_at x id step (reply_in made)) (used_in x) (rooms_in (logs_in x)) (used_in y)
      (rooms_in (logs_in y))
  pub logs : logs_in y
      ≡ (if any_full (logs_in x) then logs_in x else all_with (call_at x id step (reply_in made)) (logs_in x))
  pub full : any_full (logs_in x) ≡ true → y ≡ x
  pub stored : any_full (logs_in x) ≡ false → IsStored (reply_in made)
  pub wants : reply_in made ≡ Refused NoMemory → CanWantOn l id (slot_in x step) step x

pub at_number : {A : Type 0} (l : Layout) (id : ℕ) (step : Step) (x : Lent A) (made : Option Call) (y : Lent A)
    → x.cpu.id ≡ id
    → IsStepOn l step x made y
    → IsStepAt l id step x made y
at_number l id step x made y e h =
    subst (λ i. IsStepAt l i step x made y) e
    (record { on = h.on; logs = h.logs; full = h.full; stored = h.stored; wants = h.wants })

-- a CPU's own state that is put back has the number of its place
pub numbered : (ks : List CpuState) (cpu : ℕ) (k y : CpuState)
    → AreNumbered ks
    → slice_get ks cpu ≡ Some k
    → y.id ≡ k.id
    → AreNumbered (slice_set ks cpu y)
numbered ks cpu k y all at same c j there = by_eq c cpu
    (λ e. let inside = get_inside ks cpu k at in
    let is : Some y ≡ Some j = sym (written ks cpu y inside) ∙ ap (slice_get (slice_set ks cpu y)) (sym e) ∙ there in
    let here : y ≡ j = cc in
    ap (λ (z : CpuState). z.id) (sym here) ∙ same ∙ all cpu k at ∙ sym e)
    (λ n. all c j (sym (kept ks cpu c y n) ∙ there))

-- one more behind
behind : (ks : List CpuState) (k : CpuState) (c : ℕ) (j : CpuState)
    → slice_get (ks ++ k ∷ []) c ≡ Some j
    → (slice_get ks c ≡ Some j) ⊎ ((c ≡ length ks) × (k ≡ j))
behind [] k zero j e = inr (refl, cc)
behind [] k (suc c) j e = cc
behind (x ∷ ks) k zero j e = inl e
behind (x ∷ ks) k (suc c) j e = elim (behind ks k c j e) [ inl h ↦ inl h | inr h ↦ inr (ap suc h.0, h.1) ]

pub numbered_more : (ks : List CpuState) (k : CpuState) → length ks ≡ k.id → AreNumbered ks → AreNumbered (ks ++ k ∷ [])
numbered_more ks k n all c j there = elim (behind ks k c j there) [
  | inl h ↦ all c j h
  | inr h ↦ sym (ap (λ (z : CpuState). z.id) h.1) ∙ sym n ∙ sym h.0
]
