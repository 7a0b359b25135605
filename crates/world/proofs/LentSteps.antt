-- A step on options of references is one on the parts that are given.
use Rattle.std.proofs.Common.{◌≡◌, ◌∙◌, ℕ, Bool, false, Option, Some, None, refl, sym, ap, subst}
use Rattle.std.specs.Borrow.{MutBor}
use Rattle.call_table.specs.declared.reply.Call.{Call}
use Rattle.call_table.specs.declared.reply.Reply.{Reply}
use Rattle.call_table.specs.declared.step.Step.{Step}
use Rattle.page_state.specs.Layouts.{Layout}
use Rattle.reference_model.specs.model.Rules.{guest_slot, names}
use Rattle.reference_model.specs.model.Reached.{IsReached}
use Rattle.part_types.specs.declared.parts.VmPart.{VmPart}
use Rattle.part_types.specs.declared.parts.SharedPart.{SharedPart}
use Rattle.part_types.specs.declared.parts.GuestPart.{GuestPart}
use Rattle.part_types.specs.declared.parts.CpuState.{CpuState}
use Rattle.part_types.specs.Lent.{Lent, lent_alone, lent_both, lent_guest, lent_shared, lent_vms, used_in}
use Rattle.part_types.specs.View.{cpu_of}
use Rattle.hypercalls.specs.Steps.{IsStepOn, reply_in}
use Rattle.hypercalls.specs.Uses.{uses_of}
use Rattle.hypercalls.specs.declared.used_parts.UsedParts.{UsedParts}
use Rattle.hypercalls.specs.declared.used_parts.UsedParts.TheVariants.{Nothing, Vms, Shared, Guest, Both}
use Rattle.world.specs.LentParts.{AreLent, IsLentReached, call_stored, left_of, lent_of, parts_used}
use Rattle.world.proofs.LeftOptions.{LastOf, exit_of, given_none, given_some, last_at, left_none, left_some, none_given}

module _ {A : Type 0} where
  abbrev all : CpuState → Option VmPart → Option (SharedPart A) → Option (GuestPart A) → Lent A
  all k v s g = record { vms = v; shared = s; guest = g; cpu = k }

  same_lent : (k : CpuState) {v w : Option VmPart} {s t : Option (SharedPart A)} {g h : Option (GuestPart A)}
      → v ≡ w
      → s ≡ t
      → g ≡ h
      → all k v s g ≡ all k w t h
  same_lent k {v} {w} {s} {t} {g} {h} a b e =
      ap (λ x. all k x s g) a ∙ ap (λ x. all k w x g) b ∙ ap (λ x. all k w t x) e

  module _ (l : Layout) (step : Step) {x z : Lent A} (is : x ≡ z) where
    -- what a state that is reached has, with the slot that was found
    pub reached_there : (slot : Option ℕ)
        → guest_slot (cpu_of z.cpu) step ≡ slot
        → IsLentReached l step x
        → ∥ IsReached l (names step) slot z.cpu.id (used_in z) ∥₁
    reached_there slot found h =
        subst (λ i. ∥ IsReached l (names step) i z.cpu.id (used_in z) ∥₁) found
        (subst (λ (u : Lent A). IsLentReached l step u) is h)

    module _ (call : Option Call) (reply : Reply) (says : reply ≡ reply_in call) (w : Lent A)
        (made : IsStepOn l step z call w) where
      call_is : call ≡ call_stored x step reply
      call_is = made.told ∙ sym (ap (λ (u : Lent A). call_stored u step reply) is ∙ ap (call_stored z step) says)

      pub step_given : (y : Lent A) → y ≡ w → IsStepOn l step x (call_stored x step reply) y
      step_given y left =
          subst (λ c. IsStepOn l step x c y) call_is
          (subst (λ (u : Lent A). IsStepOn l step u call y) (sym is)
          (subst (λ (u : Lent A). IsStepOn l step z call u) (sym left) made))

      pub reply_given : reply ≡ reply_in (call_stored x step reply)
      reply_given = says ∙ ap reply_in call_is

  module _ (v : Option (MutBor VmPart)) (s : Option (MutBor (SharedPart A))) (g : Option (MutBor (GuestPart A)))
      (k : CpuState) (step : Step) (lends : AreLent step (lent_of v s g k)) where
    -- what a step doesn't use isn't given
    module _ (u : UsedParts) (uses : uses_of (cpu_of k) step ≡ u) where
      no_vms : (parts_used u).0 ≡ false → v ≡ None
      no_vms none = none_given v (ap (λ (t : Bool × Bool × Bool). t.0) lends ∙ ap (λ z. (parts_used z).0) uses ∙ none)

      no_shared : (parts_used u).1 ≡ false → s ≡ None
      no_shared none =
          none_given s (ap (λ (t : Bool × Bool × Bool). t.1) lends ∙ ap (λ z. (parts_used z).1) uses ∙ none)

      no_guest : (parts_used u).2 ≡ false → g ≡ None
      no_guest none = none_given g (ap (λ (t : Bool × Bool × Bool). t.2) lends ∙ ap (λ z. (parts_used z).2) uses ∙ none)

    -- what is lent at the call and at the return, by the kind of use
    module _ (uses : uses_of (cpu_of k) step ≡ Nothing) where
      pub alone_given : lent_of v s g k ≡ lent_alone k
      alone_given =
          same_lent k (given_none v (no_vms Nothing uses refl)) (given_none s (no_shared Nothing uses refl))
          (given_none g (no_guest Nothing uses refl))

      pub alone_left : (j : CpuState) (a : LastOf v) (b : LastOf s) (e : LastOf g)
          → left_of (exit_of v a) (exit_of s b) (exit_of g e) j ≡ lent_alone j
      alone_left j a b e =
          same_lent j (left_none v (no_vms Nothing uses refl) a) (left_none s (no_shared Nothing uses refl) b)
          (left_none g (no_guest Nothing uses refl) e)

    module _ (uses : uses_of (cpu_of k) step ≡ Vms) (r : MutBor VmPart) (is : v ≡ Some r) where
      pub vms_given : lent_of v s g k ≡ lent_vms r.now k
      vms_given =
          same_lent k (given_some v r is) (given_none s (no_shared Vms uses refl))
          (given_none g (no_guest Vms uses refl))

      pub vms_left : (n : VmPart) (j : CpuState) (b : LastOf s) (e : LastOf g)
          → left_of (exit_of v (last_at v r n)) (exit_of s b) (exit_of g e) j ≡ lent_vms n j
      vms_left n j b e =
          same_lent j (left_some v r n is) (left_none s (no_shared Vms uses refl) b)
          (left_none g (no_guest Vms uses refl) e)

    module _ (uses : uses_of (cpu_of k) step ≡ Shared) (r : MutBor (SharedPart A)) (is : s ≡ Some r) where
      pub shared_given : lent_of v s g k ≡ lent_shared r.now k
      shared_given =
          same_lent k (given_none v (no_vms Shared uses refl)) (given_some s r is)
          (given_none g (no_guest Shared uses refl))

      pub shared_left : (n : SharedPart A) (j : CpuState) (a : LastOf v) (e : LastOf g)
          → left_of (exit_of v a) (exit_of s (last_at s r n)) (exit_of g e) j ≡ lent_shared n j
      shared_left n j a e =
          same_lent j (left_none v (no_vms Shared uses refl) a) (left_some s r n is)
          (left_none g (no_guest Shared uses refl) e)

    module _ (slot : ℕ) (uses : uses_of (cpu_of k) step ≡ Guest slot) (r : MutBor (GuestPart A)) (is : g ≡ Some r) where
      pub guest_given : lent_of v s g k ≡ lent_guest r.now k
      guest_given =
          same_lent k (given_none v (no_vms (Guest slot) uses refl)) (given_none s (no_shared (Guest slot) uses refl))
          (given_some g r is)

      pub guest_left : (n : GuestPart A) (j : CpuState) (a : LastOf v) (b : LastOf s)
          → left_of (exit_of v a) (exit_of s b) (exit_of g (last_at g r n)) j ≡ lent_guest n j
      guest_left n j a b =
          same_lent j (left_none v (no_vms (Guest slot) uses refl) a)
          (left_none s (no_shared (Guest slot) uses refl) b) (left_some g r n is)

    module _ (slot : ℕ) (uses : uses_of (cpu_of k) step ≡ Both slot) (r : MutBor (SharedPart A)) (is : s ≡ Some r)
        (p : MutBor (GuestPart A)) (p_is : g ≡ Some p) where
      pub both_given : lent_of v s g k ≡ lent_both r.now p.now k
      both_given = same_lent k (given_none v (no_vms (Both slot) uses refl)) (given_some s r is) (given_some g p p_is)

      pub both_left : (n : SharedPart A) (m : GuestPart A) (j : CpuState) (a : LastOf v)
          → left_of (exit_of v a) (exit_of s (last_at s r n)) (exit_of g (last_at g p m)) j ≡ lent_both n m j
      both_left n m j a =
          same_lent j (left_none v (no_vms (Both slot) uses refl) a) (left_some s r n is) (left_some g p m p_is)
