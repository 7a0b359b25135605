-- What a record requires of parts: it holds of those that a run leaves, and of those that a call leaves.
use Rattle.std.proofs.Common.{◌≡◌, ℕ, zero, suc, ◌<◌, sym, subst, Option, Some}
use Rattle.std.specs.Coded.{Unit-prop}
use Rattle.std.proofs.Math.Logic.{∥∥₁_elim, ∥∥₁_map}
use Rattle.std.proofs.Props.{props}
use Rattle.call_table.specs.declared.reply.Call.{Call}
use Rattle.call_table.specs.declared.step.Step.{Step}
use Rattle.page_state.specs.Layouts.{Layout}
use Rattle.reference_model.specs.model.Boot.{CanBoot}
use Rattle.reference_model.specs.help.Conditions.{Legal}
use Rattle.reference_model.specs.model.State.{Cpu, Reference}
use Rattle.reference_model.proofs.conditions.Keeps.{legal_keeps}
use Rattle.reference_model.proofs.conditions.RunsLegal.{ready-usable, run_legal}
use Rattle.part_types.specs.declared.parts.CpuState.{CpuState}
use Rattle.part_types.specs.declared.parts.GuestPart.{GuestPart}
use Rattle.part_types.specs.View.{cpu_of, guest_held}
use Rattle.part_table.proofs.Left.{own_left, part_left}
use Rattle.part_table.specs.declared.slot.Slot.{Slot}
use Rattle.part_table.specs.declared.slot.Slot.TheVariants.{Vm as VmSlot, Shared as SharedSlot, Guest as GuestSlot}
use Rattle.part_table.specs.Does.{Does, IsLeft}
use Rattle.part_table.specs.Parts.{IsGuest, IsOwn, IsPart}
use Rattle.part_table.proofs.Stepping.{nat_prop}
use Rattle.ghost_spec.specs.Kept.{HasNextGeneration}
use Rattle.ghost_spec.proofs.Releases.{run_has_next, untold_next}
use Rattle.ghost_oracle.specs.Low.{IsLowCpu, IsLowGuest}
use Rattle.ghost_oracle.proofs.LowParts.{low_cpu, low_guest, untold_cpu, untold_guest}
use Rattle.cpu_threads.specs.Judged.{CanRecord, IsOfKind}

no_prop : IsProp ⊥
no_prop = hlevel props

module _ {A : Type 0} where
  kind_of : (l : Layout) (s : Reference) (k : ℕ) (x : Slot A) → IsPart l s k x → IsOfKind k x
  kind_of l s zero (VmSlot p) h = tt
  kind_of l s zero (SharedSlot p) h = absurd h
  kind_of l s zero (GuestSlot p) h = absurd h
  kind_of l s (suc zero) (VmSlot p) h = absurd h
  kind_of l s (suc zero) (SharedSlot p) h = tt
  kind_of l s (suc zero) (GuestSlot p) h = absurd h
  kind_of l s (suc (suc v)) (VmSlot p) h = absurd h
  kind_of l s (suc (suc v)) (SharedSlot p) h = absurd h
  kind_of l s (suc (suc v)) (GuestSlot p) h = tt

  kind_prop : (k : ℕ) (x : Slot A) → IsProp (IsOfKind k x)
  kind_prop zero (VmSlot p) = Unit-prop
  kind_prop zero (SharedSlot p) = no_prop
  kind_prop zero (GuestSlot p) = no_prop
  kind_prop (suc zero) (VmSlot p) = no_prop
  kind_prop (suc zero) (SharedSlot p) = Unit-prop
  kind_prop (suc zero) (GuestSlot p) = no_prop
  kind_prop (suc (suc v)) (VmSlot p) = no_prop
  kind_prop (suc (suc v)) (SharedSlot p) = no_prop
  kind_prop (suc (suc v)) (GuestSlot p) = Unit-prop

  -- of parts and of a CPU's own state that stand in a legal state
  module _ (l : Layout) (ready : CanBoot l) (s : Reference) (legal : Legal l s.contents) where
    guest_of : (k : ℕ) (p : GuestPart A) → IsPart l s k (GuestSlot p) → IsLowGuest (guest_held p)
    guest_of zero p h = absurd h
    guest_of (suc zero) p h = absurd h
    guest_of (suc (suc v)) p h =
        let is : IsGuest l s v p = h in
        subst IsLowGuest (sym is.content) (low_guest l ready s.contents legal v)

    can_record : (held : ℕ → Option (Slot A)) (cpu : ℕ) (own : CpuState)
        → ((k : ℕ) (x : Slot A) → held k ≡ Some x → IsPart l s k x)
        → IsOwn l s cpu own
        → CanRecord held own
    can_record held cpu own parts mine = record {
      kinds = λ k x e. kind_of l s k x (parts k x e);
      guests = λ k p e. guest_of k p (parts k (GuestSlot p) e);
      own_low = subst IsLowCpu (sym mine.content) (low_cpu l ready s.contents legal cpu);
    }

  untold_run : (held : ℕ → Option (Slot A)) (own : CpuState) → ∥ CanRecord held own ∥₁ → CanRecord held own
  untold_run held own h = record {
    kinds = λ k x e. ∥∥₁_elim h (kind_prop k x) (λ c. c.kinds k x e);
    guests = λ k p e. untold_guest (guest_held p) (∥∥₁_map h (λ c. c.guests k p e));
    own_low = untold_cpu (cpu_of own) (∥∥₁_map h (λ c. c.own_low));
  }

  module _ (l : Layout) (cpu : ℕ) (own : CpuState) (before : ℕ → Option (Slot A))
      (left : ∥ IsLeft l cpu own before ∥₁) where
    pub can_before : CanRecord before own
    can_before =
        untold_run before own
        (∥∥₁_map left
        (λ h. can_record l h.ready h.history.end (run_legal l h.log h.history.end h.ready h.history.run) before cpu own
        (part_left h) (own_left cpu own h)))

    pub can_after : (c : Call) (after : ℕ → Option (Slot A)) (owned : CpuState)
        → cpu < l.config.cpus
        → c.cpu ≡ cpu
        → Does l c before own after owned
        → CanRecord after owned
    can_after c after owned known by does = untold_run after owned (∥∥₁_map left (λ h.
        let t =
        does.goes h.history.end (part_left h)
        (subst (λ n. IsOwn l h.history.end n own) (sym by) (own_left cpu own h)) in
        can_record l h.ready t.0
        (legal_keeps l h.history.end t.0 c (ready-usable l h.ready) (subst (λ n. n < l.config.cpus) (sym by) known)
        (run_legal l h.log h.history.end h.ready h.history.run) t.1) after c.cpu owned t.2 t.3))

    -- its CPU's number stays
    pub id_after : (c : Call) (after : ℕ → Option (Slot A)) (owned : CpuState)
        → c.cpu ≡ cpu
        → Does l c before own after owned
        → owned.id ≡ c.cpu
    id_after c after owned by does =
        ∥∥₁_elim left (nat_prop owned.id c.cpu)
        (λ h. let t =
        does.goes h.history.end (part_left h)
        (subst (λ n. IsOwn l h.history.end n own) (sym by) (own_left cpu own h)) in
        t.3.id)

    -- and its next generation is a number of 64 bits
    pub next_before : (step : Step) → HasNextGeneration (cpu_of own).ticket step
    next_before step =
        untold_next (cpu_of own).ticket step
        (∥∥₁_map left
        (λ h. subst (λ (k : Cpu). HasNextGeneration k.ticket step) (sym (own_left cpu own h).content)
        (run_has_next l h.log h.history.end h.ready h.history.run cpu step)))
