-- The numbers of parts that a run leaves are small: what holds frames holds memory frames, and what names a slot names
-- one of the 64.
use Rattle.std.proofs.Common.{◌≡◌, ℕ, suc, ◌+◌, ◌-◌, ◌^◌, ◌<◌, ◌≤◌, refl, ap, sym, ◌∙◌, subst, arith, List, [], ◌∷◌, length, All, Option, Some, None, true}
use Rattle.std.specs.Coded.{×_prop, Unit-prop, le_prop}
use Rattle.std.specs.List.{Contains}
use Rattle.std.specs.Prelude.{get_or}
use Rattle.std.proofs.lemmas.Option.{slice_get-get_or}
use Rattle.std.proofs.Math.Logic.{∥∥₁_elim, ∥∥₁_map}
use Rattle.call_table.specs.declared.step.Step.{Step}
use Rattle.page_state.specs.declared.entry.PageRange.{PageRange}
use Rattle.page_state.specs.Geometries.{pages_below}
use Rattle.page_state.specs.Layouts.{Layout, is_memory, hyp_page}
use Rattle.page_state.specs.Map.{is_within}
use Rattle.page_state.proofs.Updates.{within_test}
use Rattle.reference_model.specs.model.Boot.{CanBoot}
use Rattle.reference_model.specs.declared.changes.Loaded.{Loaded}
use Rattle.reference_model.specs.declared.changes.Ticket.{Ticket}
use Rattle.reference_model.specs.help.Conditions.{Legal, is_inside}
use Rattle.reference_model.specs.claims.Sound.{Place, vm_pool, table_of, hand, IsHeld}
use Rattle.reference_model.specs.model.State.{Contents, Guest, Cpu, no_guest, no_cpu}
use Rattle.reference_model.proofs.conditions.OfLegal.{shared-of, guests-of}
use Rattle.reference_model.proofs.conditions.RunsLegal.{few-pages, ready-usable, run_legal}
use Rattle.reference_model.proofs.conditions.Slots.{loaded-open, ticket-slot}
use Rattle.reference_model.proofs.conditions.SoundOf.{held-use}
use Rattle.part_types.specs.declared.parts.CpuState.{CpuState}
use Rattle.part_types.specs.declared.parts.GuestPart.{GuestPart}
use Rattle.part_types.specs.View.{guest_held, cpu_of}
use Rattle.hypercalls.specs.declared.parts.Parts.{Parts}
use Rattle.hypercalls.specs.Stands.{at_place, parts_layout, state_of, HasHistory}
use Rattle.ghost_spec.specs.Kept.{AreLowFrames, HasNextGeneration, IsSmallRange, HasLowLoad, HasLowTicket}
use Rattle.ghost_spec.proofs.Releases.{run_has_next, untold_next}
use Rattle.ghost_oracle.specs.Low.{IsLowGuest, IsLowCpu}
use Rattle.ghost_oracle.proofs.Reached.{run_to}

low_frames_prop : (fs : List ℕ) → IsProp (AreLowFrames fs)
low_frames_prop [] = Unit-prop
low_frames_prop (f ∷ fs) = ×_prop le_prop (low_frames_prop fs)

small_range_prop : (o : Option PageRange) → IsProp (IsSmallRange o)
small_range_prop None = Unit-prop
small_range_prop (Some r) = le_prop

low_load_prop : (o : Option Loaded) → IsProp (HasLowLoad o)
low_load_prop None = Unit-prop
low_load_prop (Some x) = le_prop

low_ticket_prop : (o : Option Ticket) → IsProp (HasLowTicket o)
low_ticket_prop None = Unit-prop
low_ticket_prop (Some t) = le_prop

all_low : (fs : List ℕ) → ((f : ℕ) → Contains fs f → f ≤ 2 ^ 62) → AreLowFrames fs
all_low [] h = tt
all_low (f ∷ fs) h = (h f (0, omega arith, refl), all_low fs (λ g c. h g (suc c.0, omega (arith, c.1), c.2)))

last_within : (first count : ℕ) → 1 ≤ count → is_within first count (first + (count - 1)) ≡ true
last_within first count h = within_test first count (first + (count - 1)) (omega arith) (omega (arith, h))

-- of a guest and a CPU of which this is known, but not by which run
pub untold_guest : (g : Guest) → ∥ IsLowGuest g ∥₁ → IsLowGuest g
untold_guest g h = record {
  tables = λ b f e. ∥∥₁_elim h le_prop (λ k. k.tables b f e);
  free = ∥∥₁_elim h (low_frames_prop g.free) (λ k. k.free);
}

pub untold_cpu : (k : Cpu) → ∥ IsLowCpu k ∥₁ → IsLowCpu k
untold_cpu k h = record {
  hand = ∥∥₁_elim h (small_range_prop k.hand) (λ c. c.hand);
  loaded = ∥∥₁_elim h (low_load_prop k.loaded) (λ c. c.loaded);
  ticket = ∥∥₁_elim h (low_ticket_prop k.ticket) (λ c. c.ticket);
}

module _ (l : Layout) (ready : CanBoot l) (s : Contents) (legal : Legal l s) where
  -- what is held is memory
  held_low : (p : Place) (f : ℕ) → IsHeld s f p → f ≤ 2 ^ 36
  held_low p f h =
      let x = shared-of s legal.condition legal.maps f l legal.held in
      let g = guests-of s legal.condition legal.maps f l legal.held in
      let is =
      held-use l s f (legal.condition f) x g
      (λ cpu. legal.held.hand cpu f) legal.trees.host legal.trees.hyp legal.trees.guest p h in
      let memory : is_memory l f ≡ true = sym (legal.of_layout.inside f) ∙ ap is_inside is in
      let page : hyp_page f < pages_below l.depth = (ready-usable l ready).pages f memory in
      let few : pages_below l.depth ≤ 2 ^ 36 = few-pages l ready.accepted in
      omega (arith, page, few)

  cpu_hand : (c : ℕ) (o : Option PageRange) → (s.cpu c).hand ≡ o → IsSmallRange o
  cpu_hand c None e = tt
  cpu_hand c (Some r) e =
      let some : 1 ≤ r.count = legal.slots.some_hand c r e in
      let low = held_low (hand c) (r.first.0 + (r.count - 1)) (rw e (last_within r.first.0 r.count some)) in
      omega (arith, some, low)

  cpu_loaded : (c : ℕ) (o : Option Loaded) → (s.cpu c).loaded ≡ o → HasLowLoad o
  cpu_loaded c None e = tt
  cpu_loaded c (Some x) e = (loaded-open s legal.slots c x e).1

  cpu_ticket : (c : ℕ) (o : Option Ticket) → (s.cpu c).ticket ≡ o → HasLowTicket o
  cpu_ticket c None e = tt
  cpu_ticket c (Some t) e = ticket-slot s legal.slots c t e

  -- of a guest of a legal state
  pub low_guest : (v : ℕ) → IsLowGuest (s.guest v)
  low_guest v = record {
    tables = λ b f e. let low = held_low (table_of (suc (suc v)) b) f e in omega (arith, low);
    free = all_low (s.guest v).free (λ f c. let low = held_low (vm_pool v) f c in omega (arith, low));
  }

  -- and of a CPU
  pub low_cpu : (c : ℕ) → IsLowCpu (s.cpu c)
  low_cpu c =
      record {
        hand = cpu_hand c (s.cpu c).hand refl;
        loaded = cpu_loaded c (s.cpu c).loaded refl;
        ticket = cpu_ticket c (s.cpu c).ticket refl;
      }

module _ {A : Type 0} (p : Parts A) where
  abbrev contents : Contents
  contents = (state_of p).contents

  legal_now : (h : HasHistory p) → Legal (parts_layout p) contents
  legal_now h = run_legal (parts_layout p) h.log (state_of p) h.ready (run_to p h)

  guest_at : (k : ℕ) (d : GuestPart A)
      → k < length p.guests.items
      → contents.guest k ≡ guest_held (get_or p.guests.items k d)
  guest_at k d less = ap (at_place no_guest guest_held) (slice_get-get_or p.guests.items k d less)

  cpu_at : (k : ℕ) (d : CpuState) → k < length p.cpus.items → contents.cpu k ≡ cpu_of (get_or p.cpus.items k d)
  cpu_at k d less = ap (at_place no_cpu cpu_of) (slice_get-get_or p.cpus.items k d less)

  module _ (past : ∥ HasHistory p ∥₁) where
    pub low_guests : All (λ g. IsLowGuest (guest_held g)) p.guests.items
    low_guests k d less =
        untold_guest (guest_held (get_or p.guests.items k d))
        (∥∥₁_map past
        (λ h. subst IsLowGuest (guest_at k d less)
        (low_guest (parts_layout p) h.ready contents (legal_now h) k)))

    pub low_cpus : All (λ c. IsLowCpu (cpu_of c)) p.cpus.items
    low_cpus k d less =
        untold_cpu (cpu_of (get_or p.cpus.items k d))
        (∥∥₁_map past
        (λ h. subst IsLowCpu (cpu_at k d less) (low_cpu (parts_layout p) h.ready contents (legal_now h) k)))

    -- each step of a CPU leads to a generation that is a number of 64 bits
    pub has_next : (cpu : ℕ) (step : Step) → HasNextGeneration (contents.cpu cpu).ticket step
    has_next cpu step =
        untold_next (contents.cpu cpu).ticket step
        (∥∥₁_map past (λ h. run_has_next (parts_layout p) h.log (state_of p) h.ready (run_to p h) cpu step))
