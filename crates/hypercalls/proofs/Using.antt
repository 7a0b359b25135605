-- What a step names and which slot it finds, by its kind of use.
use Rattle.std.proofs.Common.{◌≡◌, ◌∙◌, ℕ, Bool, true, false, Option, Some, None, refl, sym, ap}
use Rattle.reference_model.specs.model.Parts.{uses_vms, uses_shared}
use Rattle.reference_model.specs.model.Rules.{names, guest_slot}
use Rattle.reference_model.specs.model.State.{Cpu}
use Rattle.call_table.specs.declared.step.Step.{Step}
use Rattle.decisions.proofs.Decided.{vms_parts}
use Rattle.hypercalls.specs.declared.used_parts.UsedParts.TheVariants.{Nothing, Vms, Shared, Guest, Both}
use Rattle.hypercalls.specs.Uses.{or_vms, by_slot, uses_of}

of_nothing : (v s : Bool) (slot : Option ℕ)
    → or_vms v (by_slot s slot) ≡ Nothing
    → (v ≡ false) × (s ≡ false) × (slot ≡ None)
of_nothing true s slot e = cc
of_nothing false true None e = cc
of_nothing false false None e = (refl, refl, refl)
of_nothing false true (Some u) e = cc
of_nothing false false (Some u) e = cc

of_vms : (v s : Bool) (slot : Option ℕ) → or_vms v (by_slot s slot) ≡ Vms → v ≡ true
of_vms true s slot e = refl
of_vms false true None e = cc
of_vms false false None e = cc
of_vms false true (Some u) e = cc
of_vms false false (Some u) e = cc

of_shared : (v s : Bool) (slot : Option ℕ)
    → or_vms v (by_slot s slot) ≡ Shared
    → (v ≡ false) × (s ≡ true) × (slot ≡ None)
of_shared true s slot e = cc
of_shared false true None e = (refl, refl, refl)
of_shared false false None e = cc
of_shared false true (Some u) e = cc
of_shared false false (Some u) e = cc

of_guest : (v s : Bool) (slot : Option ℕ) (u : ℕ)
    → or_vms v (by_slot s slot) ≡ Guest u
    → (v ≡ false) × (s ≡ false) × (slot ≡ Some u)
of_guest true s slot u e = cc
of_guest false true None u e = cc
of_guest false false None u e = cc
of_guest false true (Some w) u e = cc
of_guest false false (Some w) u e = (refl, refl, cc)

of_both : (v s : Bool) (slot : Option ℕ) (u : ℕ)
    → or_vms v (by_slot s slot) ≡ Both u
    → (v ≡ false) × (s ≡ true) × (slot ≡ Some u)
of_both true s slot u e = cc
of_both false true None u e = cc
of_both false false None u e = cc
of_both false true (Some w) u e = (refl, refl, cc)
of_both false false (Some w) u e = cc

module _ (k : Cpu) (step : Step) where
  -- what is used is told by these
  pub record IsKind (v s : Bool) (o : Option ℕ) : Type 0 where
    pub vms : uses_vms (names step) ≡ v
    pub shared : uses_shared (names step) o ≡ s
    pub slot : guest_slot k step ≡ o

  at_slot : (v s : Bool) (o : Option ℕ)
      → (uses_vms (names step) ≡ v) × (uses_shared (names step) (guest_slot k step) ≡ s) × (guest_slot k step ≡ o)
      → IsKind v s o
  at_slot v s o is = record { vms = is.0; shared = sym (ap (uses_shared (names step)) is.2) ∙ is.1; slot = is.2 }

  pub nothing : uses_of k step ≡ Nothing → IsKind false false None
  nothing e =
      at_slot false false None
      (of_nothing (uses_vms (names step)) (uses_shared (names step) (guest_slot k step)) (guest_slot k step) e)

  pub vms : uses_of k step ≡ Vms → IsKind true false None
  vms e =
      let is = of_vms (uses_vms (names step)) (uses_shared (names step) (guest_slot k step)) (guest_slot k step) e in
      let parts = vms_parts k None step is in
      record { vms = is; shared = parts.1; slot = parts.0 }

  pub shared : uses_of k step ≡ Shared → IsKind false true None
  shared e =
      at_slot false true None
      (of_shared (uses_vms (names step)) (uses_shared (names step) (guest_slot k step)) (guest_slot k step) e)

  pub guest : (u : ℕ) → uses_of k step ≡ Guest u → IsKind false false (Some u)
  guest u e =
      at_slot false false (Some u)
      (of_guest (uses_vms (names step)) (uses_shared (names step) (guest_slot k step)) (guest_slot k step) u e)

  pub both : (u : ℕ) → uses_of k step ≡ Both u → IsKind false true (Some u)
  both u e =
      at_slot false true (Some u)
      (of_both (uses_vms (names step)) (uses_shared (names step) (guest_slot k step)) (guest_slot k step) u e)
