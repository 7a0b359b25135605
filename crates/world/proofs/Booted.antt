-- The parts of a world that has booted stand for the boot state.
use Rattle.std.proofs.Common.{◌≡◌, ℕ, ◌-◌, List, [], All, inl, inr, refl, ap, sym, ◌∙◌, subst, slice_get, arith}
use Rattle.std.proofs.lemmas.Option.{slice_get_cases}
use mathlib.Core.Path.{fun_ext}
use Rattle.page_state.specs.declared.layout.Config.{Config}
use Rattle.page_state.specs.declared.layout.Geometry.{Geometry}
use Rattle.call_table.specs.declared.reply.Call.{Call}
use Rattle.page_state.specs.LayoutFaults.{IsAccepted}
use Rattle.reference_model.specs.model.Boot.{boot, booted, IsCarveEnough}
use Rattle.reference_model.specs.model.Stored.{held_state}
use Rattle.page_state.specs.Geometries.{levels_below}
use Rattle.page_state.specs.Layouts.{Layout, HasItsDepth}
use Rattle.page_state.specs.Regions.{Memory}
use Rattle.reference_model.specs.model.State.{Vms, Shared, Guest, Cpu, Reference, all_rooms, no_vms, no_guest, no_cpu}
use Rattle.std.specs.Prelude.{Result, Ok, Err, IsErrAnd, MatchResult}
use Rattle.world.specs.declared.boot.BootFault.{BootFault}
use Rattle.world.specs.declared.boot.BootFault.TheVariants.{NoMemory}
use Rattle.part_types.specs.declared.parts.CpuState.{CpuState}
use Rattle.part_types.specs.declared.parts.GuestPart.{GuestPart}
use Rattle.part_types.specs.Logs.{StoredCalls, IsNewLog}
use Rattle.part_types.specs.View.{vm_slots, shared_of, guest_held, cpu_of}
use Rattle.hypercalls.specs.declared.parts.Parts.{Parts}
use Rattle.hypercalls.specs.Stands.{at_place, parts_layout, kept_of}
use Rattle.page_state.proofs.Geometries.{width_is}
use Rattle.hypercalls.specs.Booted.{IsConfig, HasNoCalls, IsBooted, layout_for}
use Rattle.world.specs.Boots.{IsIdle, IsVacant, IsNoBoot}

-- a layout by its parts
abbrev layout : Memory → Config → ℕ → Layout
layout m c d = record { memory = m; config = c; depth = d }

minus-none : (n : ℕ) → n ≡ n - 0
minus-none n = omega arith

pair : {X Y : Type 0} {a b : X} {d e : Y} → a ≡ b → d ≡ e → ◌≡◌ {A = X × Y} (a, d) (b, e)
pair m n = cc

each_empty : {P : Type 0} (log : P → StoredCalls) (n : ℕ) (xs : List P) (v : ℕ)
    → All (λ p. IsNewLog n (log p)) xs
    → at_place [] (λ p. (log p).calls) (slice_get xs v) ≡ []
each_empty log n xs v h = elim (slice_get_cases xs v).1 [
  | inl (k, inside, at, is) ↦ rw at (subst (λ x. (log x).calls ≡ []) is (h v k inside).empty)
  | inr past ↦ rw past.1 refl
]

module _ {A : Type 0} (m : Memory) (c : Config) (g : Geometry) (p : Parts A)
    (mapped : p.layout.map ≡ m)
    (configured : p.layout.config ≡ c)
    (deep : p.layout.geometry ≡ g)
    (vacant : vm_slots p.vms ≡ no_vms)
    (vms_log : IsNewLog c.log p.vms.log)
    (shared_log : IsNewLog c.log p.shared.log)
    (new : All (IsVacant g c.log) p.guests.items)
    (idle : All (IsIdle c.log) p.cpus.items) where
  abbrev l : Layout
  l = layout_for m c g

  layout_is : parts_layout p ≡ l
  layout_is =
      ap (λ x. layout x p.layout.config (levels_below p.layout.geometry)) mapped
      ∙ ap (λ x. layout m x (levels_below p.layout.geometry)) configured
      ∙ ap (λ x. layout m c (levels_below x)) deep

  cpu_is : (cpu : ℕ) → at_place no_cpu cpu_of (slice_get p.cpus.items cpu) ≡ no_cpu
  cpu_is cpu = elim (slice_get_cases p.cpus.items cpu).1 [
    | inl (k, inside, at, is) ↦ rw at (subst (λ (x : CpuState). cpu_of x ≡ no_cpu) is (idle cpu k inside).idle)
    | inr past ↦ rw past.1 refl
  ]

  guest_is : (v : ℕ) → at_place no_guest guest_held (slice_get p.guests.items v) ≡ no_guest
  guest_is v = elim (slice_get_cases p.guests.items v).1 [
    | inl (k, inside, at, is) ↦ rw at (subst (λ (x : GuestPart A). guest_held x ≡ no_guest) is (new v k inside).empty)
    | inr past ↦ rw past.1 refl
  ]

  none : HasNoCalls p
  none = record {
    vms = vms_log.empty;
    shared = shared_log.empty;
    guests = λ v. each_empty (λ (x : GuestPart A). x.log) c.log p.guests.items v (λ k d less. (new k d less).log);
    cpus = λ v. each_empty (λ (x : CpuState). x.log) c.log p.cpus.items v (λ k d less. (idle k d less).log);
  }

  -- what there is by parts and logs
  abbrev standing : Layout → Vms × List Call → Shared × List Call → (ℕ → Guest × List Call) → (ℕ → Cpu × List Call)
      → Reference
  standing lay vms shared guests cpus =
      held_state lay (record { vms = vms; shared = shared; guest = guests; cpu = cpus })

  module _ (made : shared_of p.shared ≡ (booted l).shared) where
    stands : boot l ≡ held_state l (kept_of p)
    unfolding booted
    stands =
        ap (λ n. record { contents = booted l; rooms = all_rooms n }) (minus-none c.log)
        ∙ ap (λ x. standing l x ((booted l).shared, []) (λ v. (no_guest, [])) (λ k. (no_cpu, [])))
        (sym (pair vacant none.vms))
        ∙ ap (λ x. standing l (kept_of p).vms x (λ v. (no_guest, [])) (λ k. (no_cpu, []))) (sym (pair made none.shared))
        ∙ ap (λ x. standing l (kept_of p).vms (kept_of p).shared x (λ k. (no_cpu, [])))
        (sym (fun_ext (λ v. pair (guest_is v) (none.guests v))))
        ∙ ap (standing l (kept_of p).vms (kept_of p).shared (kept_of p).guest)
        (sym (fun_ext (λ k. pair (cpu_is k) (none.cpus k))))

    -- the parts have booted
    pub has_booted : IsAccepted m → IsConfig c g → IsCarveEnough l → IsBooted m c p
    has_booted memory accepted enough = record {
      geometry = g;
      memory = memory;
      accepted = accepted;
      enough = enough;
      layout = layout_is;
      depth = subst HasItsDepth (sym layout_is) (width_is c.geometry g accepted.geometry);
      stands = subst (λ x. boot x ≡ held_state x (kept_of p)) (sym layout_is) stands;
      no_calls = none;
    }

pub err_is : {X : Type 0} {a b : BootFault} → ◌≡◌ {A = Result X BootFault} (Err a) (Err b) → a ≡ b
err_is h = cc

-- want of memory, where no test fails
pub no_memory : {A : Type 0} (m : Memory) (c : Config) (g : Geometry) (r : Result (Parts A) BootFault)
    → IsConfig c g
    → IsCarveEnough (layout_for m c g)
    → IsErrAnd r (λ f. f ≡ NoMemory)
    → MatchResult r (IsBooted m c) (λ fault. IsNoBoot fault m c)
no_memory m c g (Ok p) accepted enough h = absurd h
no_memory m c g (Err f) accepted enough h = subst (λ x. IsNoBoot x m c) (sym h) (g, accepted, enough)
