-- What the parts lend to a step by its kind of use, and the parts after it.
use Rattle.std.proofs.Common.{arith, ◌≡◌, ◌∙◌, ℕ, zero, suc, ◌<◌, All, Bool, get_or, refl, List, [], ◌∷◌, length, slice_get, slice_set, unwrap_or, Option, Some, sym, ap, subst}
use Rattle.std.proofs.Math.Logic.{∥∥₁_map}
use Rattle.std.proofs.lemmas.Option.{slice_get_read}
use Rattle.page_state.specs.Geometries.{levels_below}
use Rattle.page_state.specs.Layouts.{Layout}
use Rattle.reference_model.specs.model.Parts.{uses_shared}
use Rattle.reference_model.specs.model.Rules.{names, guest_slot}
use Rattle.reference_model.specs.model.Reached.{IsReached}
use Rattle.call_table.specs.declared.reply.Call.{Call}
use Rattle.call_table.specs.declared.reply.Reply.{Reply}
use Rattle.call_table.specs.declared.step.Step.{Step}
use Rattle.part_types.specs.declared.parts.VmPart.{VmPart}
use Rattle.part_types.specs.declared.parts.GuestPart.{GuestPart}
use Rattle.part_types.specs.declared.parts.CpuState.{CpuState}
use Rattle.part_types.specs.Lent.{Lent, GuestSuits, lent_alone, lent_vms, used_in}
use Rattle.part_types.specs.Logs.{IsOfSize}
use Rattle.part_types.specs.View.{cpu_of}
use Rattle.hypercalls.specs.declared.parts.Parts.{Parts}
use Rattle.hypercalls.specs.Stands.{parts_layout, HasHistory}
use Rattle.hypercalls.specs.Steps.{IsStepOn, reply_in}
use Rattle.hypercalls.specs.Whole.{IsStep}
use Rattle.hypercalls.proofs.Numbered.{IsStepAt, at_number}
use Rattle.hypercalls.proofs.Places.{when, Inside, inside_of, get_at, put_list}
use Rattle.hypercalls.proofs.Using.{IsKind}
use Rattle.hypercalls.proofs.Whole.{x as lent_of, reached, is_step, history, slot_below}

-- what holds of all holds of what stands at a place
pub all_get : {P : Type 0} (Is : P → Type 0) (xs : List P) (v : ℕ) (p : P) → All Is xs → slice_get xs v ≡ Some p → Is p
all_get Is [] v p h e = cc
all_get Is (x ∷ xs) zero p h e = subst Is (let s : x ≡ p = cc in s) (h 0 x (omega arith))
all_get Is (x ∷ xs) (suc v) p h e = all_get Is xs v p (λ k d less. h (suc k) d (omega (arith, less))) e

module _ {A : Type 0} (p : Parts A) where
  -- a CPU's own state, and a guest
  pub own_at : (cpu : ℕ) (k : CpuState)
      → cpu < p.layout.config.cpus
      → k ≡ get_or p.cpus.items cpu k
      → slice_get p.cpus.items cpu ≡ Some k
  own_at cpu k known e = let within : cpu < length p.cpus.items = omega (arith, p.counted, p.cpus.ok.0, known) in
      slice_get_read p.cpus.items (length p.cpus.items) cpu k refl within e

  -- its number is that of its place
  pub known_here : (cpu : ℕ) (k : CpuState)
      → slice_get p.cpus.items cpu ≡ Some k
      → cpu < p.layout.config.cpus
      → k.id < p.layout.config.cpus
  known_here cpu k at known = subst (λ n. n < p.layout.config.cpus) (sym (p.numbers cpu k at)) known

  pub guest_at : (v : ℕ) (g : GuestPart A)
      → v < length p.guests.items
      → g ≡ get_or p.guests.items v g
      → slice_get p.guests.items v ≡ Some g
  guest_at v g within e = slice_get_read p.guests.items (length p.guests.items) v g refl within e

  pub guest_suits : (v : ℕ) (g : GuestPart A) → slice_get p.guests.items v ≡ Some g → GuestSuits (parts_layout p) g
  guest_suits v g at = record {
    depth =
        all_get
        (λ (w : GuestPart A). levels_below w.guest.geometry ≡ levels_below p.layout.geometry) p.guests.items v g
        p.guest_depth at;
    log = all_get (λ (w : GuestPart A). IsOfSize p.layout.config.log w.log) p.guests.items v g p.guest_logs at;
  }

-- a step without tables is one in any memory
pub alone_anywhere : {A : Type 0} (l : Layout) (step : Step) (k j : CpuState) (call : Option Call)
    → IsStepOn {A = Unit {0}} l step (lent_alone k) call (lent_alone j)
    → IsStepOn {A = A} l step (lent_alone k) call (lent_alone j)
alone_anywhere l step k j call made = record {
  on = made.on;
  told = made.told;
  logs = made.logs;
  full = λ e. ap (λ (z : Lent (Unit {0})). lent_alone z.cpu) (made.full e);
  stored = made.stored;
  wants = made.wants;
  id = made.id;
}

pub vms_anywhere : {A : Type 0} (l : Layout) (step : Step) (v w : VmPart) (k j : CpuState) (call : Option Call)
    → IsStepOn {A = Unit {0}} l step (lent_vms v k) call (lent_vms w j)
    → IsStepOn {A = A} l step (lent_vms v k) call (lent_vms w j)
vms_anywhere l step v w k j call made = record {
  on = made.on;
  told = made.told;
  logs = made.logs;
  full = λ e. ap (λ (z : Lent (Unit {0})). lent_vms (unwrap_or z.vms v) z.cpu) (made.full e);
  stored = made.stored;
  wants = made.wants;
  id = made.id;
}

module _ {A : Type 0} (p : Parts A) (cpu : ℕ) (step : Step) (k : CpuState) (at : slice_get p.cpus.items cpu ≡ Some k)
    (known : cpu < p.layout.config.cpus) (past : ∥ HasHistory p ∥₁) where
  within : cpu < length p.cpus.items
  within = omega (arith, p.counted, p.cpus.ok.0, known)

  low : (v : ℕ) → guest_slot (cpu_of k) step ≡ Some v → v < 64
  low = slot_below p cpu step k at known past

  many : length p.guests.items ≡ 64
  many = omega (arith, p.slots, p.guests.ok.0)

  inner : Inside (guest_slot (cpu_of k) step) (length p.guests.items)
  inner =
      inside_of (guest_slot (cpu_of k) step) (length p.guests.items) (λ v e. subst (λ n. v < n) (sym many) (low v e))

  abbrev x : Lent A
  x = lent_of p cpu step k at within inner

  module _ (v s : Bool) (o : Option ℕ) (kind : IsKind (cpu_of k) step v s o) where
    -- the slot is one of the list
    pub slot_inside : (u : ℕ) → o ≡ Some u → u < length p.guests.items
    slot_inside u e = subst (λ n. u < n) (sym many) (low u (kind.slot ∙ e))

    abbrev pub lends : Lent A
    lends = record { vms = when v p.vms; shared = when s p.shared; guest = get_at p.guests.items o; cpu = k }

    lent_is : x ≡ lends
    lent_is = let a = kind.vms in let e = kind.slot in let b = ap (uses_shared (names step)) e ∙ kind.shared in cc

    module _ (y : Lent A) (is : lends ≡ y) where
      -- what is lent stands where the parts do
      pub stands : ∥ IsReached (parts_layout p) (names step) o k.id (used_in y) ∥₁
      stands =
          subst (λ (i : ℕ). ∥ IsReached (parts_layout p) (names step) o i (used_in y) ∥₁) (sym (p.numbers cpu k at))
          (∥∥₁_map past
          (λ h. subst (λ (z : Lent A). IsReached (parts_layout p) (names step) o cpu (used_in z)) (lent_is ∙ is)
          (subst (λ (i : Option ℕ). IsReached (parts_layout p) (names step) i cpu (used_in x)) kind.slot
          (reached p cpu step k at within inner h known low))))

      module _ (call : Option Call) (z : Lent A) (made : IsStepOn (parts_layout p) step y call z) (q : Parts A)
          (layout : q.layout ≡ p.layout) (vms : q.vms ≡ unwrap_or z.vms p.vms)
          (shared : q.shared ≡ unwrap_or z.shared p.shared)
          (guests : q.guests.items ≡ put_list p.guests.items o z.guest)
          (cpus : q.cpus.items ≡ slice_set p.cpus.items cpu z.cpu) where
        made_here : IsStepAt (parts_layout p) cpu step x call z
        made_here =
            at_number (parts_layout p) cpu step x call z (p.numbers cpu k at)
            (subst (λ (w : Lent A). IsStepOn (parts_layout p) step w call z) (sym (lent_is ∙ is)) made)

        put_here : q.guests.items ≡ put_list p.guests.items (guest_slot (cpu_of k) step) z.guest
        put_here = guests ∙ sym (ap (λ i. put_list p.guests.items i z.guest) kind.slot)

        sized : (u : ℕ) (g : GuestPart A) → slice_get p.guests.items u ≡ Some g → IsOfSize p.layout.config.log g.log
        sized u g e =
            all_get (λ (w : GuestPart A). IsOfSize p.layout.config.log w.log) p.guests.items u g p.guest_logs e

        own_sized : IsOfSize p.layout.config.log k.log
        own_sized = all_get (λ (w : CpuState). IsOfSize p.layout.config.log w.log) p.cpus.items cpu k p.own_logs at

        pub steps : IsStep p cpu step (reply_in call) q × ∥ HasHistory q ∥₁
        steps = (
          is_step p cpu step k at within inner own_sized p.vm_log p.shared_log sized call z made_here q layout vms
              shared put_here cpus,
          ∥∥₁_map past
              (λ h. history p cpu step k at within inner own_sized p.vm_log p.shared_log sized call z made_here q
              layout vms shared put_here cpus h known),
        )

-- so it is of what was handed on
pub handed : {A : Type 0} (p : Parts A) (cpu : ℕ) (step : Step) {q r : Parts A} {reply : Reply}
    {made call : Option Call}
    → q ≡ r
    → reply ≡ reply_in made
    → made ≡ call
    → IsStep p cpu step (reply_in call) r × ∥ HasHistory r ∥₁
    → IsStep p cpu step reply q × ∥ HasHistory q ∥₁
handed p cpu step {q} {r} {reply} {made} {call} e f d h =
    let told : reply ≡ reply_in call = f ∙ ap reply_in d in (
      subst (λ (w : Parts _). IsStep p cpu step reply w) (sym e)
          (subst (λ (a : Reply). IsStep p cpu step a r) (sym told) h.0),
      subst (λ (w : Parts _). ∥ HasHistory w ∥₁) (sym e) h.1,
    )
