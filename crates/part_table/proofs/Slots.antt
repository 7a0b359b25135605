-- The slot of a guest that a step uses is one of the 64.
use Rattle.std.proofs.Common.{◌≡◌, ℕ, ◌<◌, Bool, true, false, refl, sym, ap, ◌∙◌}
use Rattle.std.specs.Prelude.{Option, Some, None}
use Rattle.page_state.specs.declared.layout.Layout.{Layout as TheLayout}
use Rattle.call_table.specs.declared.step.Step.{Step}
use Rattle.page_state.specs.LayoutView.{layout_of}
use Rattle.reference_model.specs.model.Parts.{Names, uses_vms, uses_shared}
use Rattle.reference_model.specs.model.Rules.{names, guest_slot}
use Rattle.reference_model.specs.model.State.{Contents, Cpu}
use Rattle.reference_model.specs.model.Used.{used_of}
use Rattle.reference_model.proofs.Rely.{reached_relies}
use Rattle.part_types.specs.declared.parts.CpuState.{CpuState}
use Rattle.part_types.specs.View.{cpu_of}
use Rattle.hypercalls.specs.declared.used_parts.UsedParts.TheVariants.{Guest, Both}
use Rattle.hypercalls.specs.Uses.{parts_of, or_vms, by_slot}
use Rattle.part_table.proofs.Left.{own_left}
use Rattle.part_table.specs.Does.{IsLeft, none_at}

guest_found : (b s : Bool) (slot : Option ℕ) (v : ℕ) → or_vms b (by_slot s slot) ≡ Guest v → slot ≡ Some v
guest_found true s slot v e = cc
guest_found false true None v e = cc
guest_found false false None v e = cc
guest_found false true (Some u) v e = cc
guest_found false false (Some u) v e = cc

both_found : (b s : Bool) (slot : Option ℕ) (v : ℕ) → or_vms b (by_slot s slot) ≡ Both v → slot ≡ Some v
both_found true s slot v e = cc
both_found false true None v e = cc
both_found false false None v e = cc
both_found false true (Some u) v e = cc
both_found false false (Some u) v e = cc

used_cpu : (n : Names) (slot : Option ℕ) (c : ℕ) (s : Contents) → (used_of n slot c s).cpu ≡ s.cpu c
unfolding used_of
used_cpu n slot c s = refl

module _ {A : Type 0} (key : TheLayout) (cpu : ℕ) (own : CpuState) (step : Step)
    (left : IsLeft {A = A} (layout_of key) cpu own none_at) (known : cpu < key.config.cpus) where
  slot_low : (v : ℕ) → guest_slot (cpu_of own) step ≡ Some v → v < 64
  slot_low v e =
      let slot : Option ℕ = guest_slot (cpu_of own) step in
      let x = used_of (names step) slot cpu left.history.end.contents in
      let is : slot ≡ guest_slot x.cpu step =
      ap (λ (k : Cpu). guest_slot k step)
      ((own_left cpu own left).content ∙ sym (used_cpu (names step) slot cpu left.history.end.contents)) in
      (reached_relies
      (layout_of key) cpu slot step x known
      is ∣ record {
        ready = left.ready;
        log = left.log;
        state = left.history.end;
        run = left.history.run;
        used = refl;
      } ∣₁).slot_low v e

  pub guest_low : (v : ℕ) → parts_of (names step) (guest_slot (cpu_of own) step) ≡ Guest v → v < 64
  guest_low v e =
      slot_low v
      (guest_found (uses_vms (names step)) (uses_shared (names step) (guest_slot (cpu_of own) step))
      (guest_slot (cpu_of own) step) v e)

  pub both_low : (v : ℕ) → parts_of (names step) (guest_slot (cpu_of own) step) ≡ Both v → v < 64
  both_low v e =
      slot_low v
      (both_found (uses_vms (names step)) (uses_shared (names step) (guest_slot (cpu_of own) step))
      (guest_slot (cpu_of own) step) v e)
