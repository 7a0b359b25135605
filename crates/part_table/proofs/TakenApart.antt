-- Parts of a world, by number.
use Rattle.std.proofs.Common.{◌≡◌, ◌∙◌, ℕ, zero, suc, ◌+◌, ◌<◌, List, [], ◌∷◌, ◌++◌, length, map, slice_get, Option, Some, None, refl, sym, ap, subst, arith}
use Rattle.std.proofs.lemmas.Option.{same_Some}
use Rattle.page_state.specs.Layouts.{Layout}
use Rattle.call_table.specs.declared.reply.Call.{Call}
use Rattle.reference_model.specs.model.History.{IsHistory, calls_by, calls_on}
use Rattle.reference_model.specs.model.Parts.{guest_part, shared_part, vm_part}
use Rattle.reference_model.specs.help.RoomLaws.{RoomsLeft}
use Rattle.reference_model.specs.model.State.{Reference, no_cpu, no_guest}
use Rattle.reference_model.proofs.RoomLaws.{run_rooms}
use Rattle.part_types.specs.declared.parts.VmPart.{VmPart}
use Rattle.part_types.specs.declared.parts.SharedPart.{SharedPart}
use Rattle.part_types.specs.declared.parts.GuestPart.{GuestPart}
use Rattle.part_types.specs.declared.parts.CpuState.{CpuState}
use Rattle.part_types.specs.Lent.{GuestSuits}
use Rattle.part_types.specs.Logs.{IsOfSize}
use Rattle.part_types.specs.View.{guest_held, cpu_of}
use Rattle.hypercalls.specs.declared.parts.Parts.{Parts}
use Rattle.hypercalls.specs.Stands.{HasHistory, at_place, kept_of, parts_layout}
use Rattle.hypercalls.proofs.Lends.{all_get, guest_suits}
use Rattle.part_table.specs.declared.slot.Slot.{Slot}
use Rattle.part_table.specs.declared.slot.Slot.TheVariants.{Vm as VmSlot, Shared as SharedSlot, Guest as GuestSlot}
use Rattle.part_table.specs.Endings.{IsEndIn}
use Rattle.part_table.specs.Parts.{parts, part_of, log_of, IsPart, IsOwn, IsVms, IsShared, IsGuest}
use Rattle.part_table.specs.Slots.{slots_of}

-- what stands at a place
pub got : {P : Type 0} (xs : List P) (v : ℕ) → v < length xs → (x : P) × (slice_get xs v ≡ Some x)
got [] v h = absurd (omega (arith, h))
got (x ∷ xs) zero h = (x, refl)
got (x ∷ xs) (suc v) h = got xs v (omega (arith, h))

-- a place of a list is below its length
below : {P : Type 0} (xs : List P) (j : ℕ) (x : P) → slice_get xs j ≡ Some x → j < length xs
below [] j x e = absurd cc
below (y ∷ xs) zero x e = omega arith
below (y ∷ xs) (suc j) x e = let less = below xs j x e in omega (arith, less)

-- the room of a log, by the calls that it has
room_same : (limit room left : ℕ) (calls kept : List Call)
    → length calls + room ≡ limit
    → calls ≡ kept
    → left + length kept ≡ limit
    → room ≡ left
room_same limit room left calls kept size same told = let n : length calls ≡ length kept = ap length same in
    omega (arith, size, told, n)

module _ {A : Type 0} where
  -- the VM part, the Shared part and the guests by number
  abbrev row_of : VmPart → SharedPart A → List (GuestPart A) → List (Option (Slot A))
  row_of v s gs = map (λ (x : Slot A). Some x) (VmSlot v ∷ (SharedSlot s ∷ map (λ g. GuestSlot g) gs))

  guests_same : (gs : List (GuestPart A))
      → map (λ (g : GuestPart A). Some (GuestSlot g)) gs
      ≡ map (λ (x : Slot A). Some x) (map (λ (g : GuestPart A). GuestSlot g) gs)
  guests_same [] = refl
  guests_same (g ∷ gs) = ap (λ l. Some (GuestSlot g) ∷ l) (guests_same gs)

  -- the row is what is pushed
  pub row_same : (v : VmPart) (s : SharedPart A) (gs : List (GuestPart A)) (first : List (Option (Slot A)))
      → first ≡ Some (VmSlot v) ∷ Some (SharedSlot s) ∷ []
      → first ++ map (λ (g : GuestPart A). Some (GuestSlot g)) gs ≡ row_of v s gs
  row_same v s gs first is =
      ap (λ l. l ++ map (λ (g : GuestPart A). Some (GuestSlot g)) gs) is
      ∙ ap (λ l. Some (VmSlot v) ∷ Some (SharedSlot s) ∷ l) (guests_same gs)

  guest_in_slot : (gs : List (GuestPart A)) (j : ℕ) (x : Slot A)
      → slice_get (map (λ (h : GuestPart A). GuestSlot h) gs) j ≡ Some x
      → (g : GuestPart A) × (slice_get gs j ≡ Some g) × (GuestSlot g ≡ x)
  guest_in_slot [] j x e = absurd cc
  guest_in_slot (g ∷ gs) zero x e = (g, refl, same_Some (GuestSlot g) x e)
  guest_in_slot (g ∷ gs) (suc j) x e = guest_in_slot gs j x e

  guests_long : (gs : List (GuestPart A)) → length (map (λ (h : GuestPart A). GuestSlot h) gs) ≡ length gs
  guests_long [] = refl
  guests_long (g ∷ gs) = ap suc (guests_long gs)

  module _ (p : Parts A) (past : HasHistory p) where
    abbrev l : Layout
    l = parts_layout p

    abbrev end : Reference
    end = past.history.end

    abbrev h : IsHistory l (kept_of p) past.log
    h = past.history

    rooms : RoomsLeft l past.log end.rooms
    rooms = run_rooms l past.log end h.run h.stored

    many : length p.guests.items ≡ 64
    many = omega (arith, p.slots, p.guests.ok.0)

    vms_at : IsVms l end p.vms × (p.vms.log.calls ≡ calls_on vm_part past.log)
    vms_at =
        let calls : p.vms.log.calls ≡ calls_on vm_part past.log = ap (λ z. z.1) h.vms in (
          record {
            content = ap (λ z. z.0) h.vms;
            room =
                room_same l.config.log p.vms.log.room end.rooms.vms p.vms.log.calls
                (calls_on vm_part past.log) p.vm_log calls rooms.vms;
            size = p.vm_log;
          },
          calls,
        )

    shared_at : IsShared l end p.shared × (p.shared.log.calls ≡ calls_on shared_part past.log)
    shared_at =
        let calls : p.shared.log.calls ≡ calls_on shared_part past.log = ap (λ z. z.1) h.shared in (
          record {
            content = ap (λ z. z.0) h.shared;
            room =
                room_same l.config.log p.shared.log.room end.rooms.shared p.shared.log.calls
                (calls_on shared_part past.log) p.shared_log calls rooms.shared;
            suits = record { depth = p.depth; rows = p.rows; log = p.shared_log };
          },
          calls,
        )

    guest_at : (v : ℕ) (g : GuestPart A)
        → v < 64
        → slice_get p.guests.items v ≡ Some g
        → IsGuest l end v g × (g.log.calls ≡ calls_on (guest_part v) past.log)
    guest_at v g less e =
        let calls : g.log.calls ≡ calls_on (guest_part v) past.log =
        sym (ap (at_place [] (λ (w : GuestPart A). w.log.calls)) e) ∙ ap (λ z. z.1) (h.guest v less) in
        let suits : GuestSuits l g = guest_suits p v g e in (
          record {
            content = sym (ap (at_place no_guest guest_held) e) ∙ ap (λ z. z.0) (h.guest v less);
            room =
                room_same l.config.log g.log.room (end.rooms.guest v) g.log.calls
                (calls_on (guest_part v) past.log) suits.log calls (rooms.guest v);
            suits = suits;
          },
          calls,
        )

    pub own_at : (c : ℕ) (k : CpuState)
        → slice_get p.cpus.items c ≡ Some k
        → (k.log.calls ≡ calls_by c past.log) × IsOwn l end c k
    own_at c k e =
        let less : c < l.config.cpus = let b = below p.cpus.items c k e in omega (arith, b, p.counted, p.cpus.ok.0) in
        let calls : k.log.calls ≡ calls_by c past.log =
        sym (ap (at_place [] (λ (j : CpuState). j.log.calls)) e) ∙ ap (λ z. z.1) (h.cpu c less) in
        let size : IsOfSize l.config.log k.log =
        all_get (λ (j : CpuState). IsOfSize l.config.log j.log) p.cpus.items c k p.own_logs e in (
          calls,
          record {
            id = p.numbers c k e;
            content = sym (ap (at_place no_cpu cpu_of) e) ∙ ap (λ z. z.0) (h.cpu c less);
            room =
                room_same l.config.log k.log.room (end.rooms.cpu c) k.log.calls (calls_by c past.log) size calls
                (rooms.cpu c);
            size = size;
          },
        )

    pub part_at : (k : ℕ) (x : Slot A)
        → slice_get (slots_of p) k ≡ Some x
        → IsPart l end k x × ((log_of x).calls ≡ calls_on (part_of k) past.log)
    part_at zero x e =
        subst (λ (y : Slot A). IsPart l end 0 y × ((log_of y).calls ≡ calls_on (part_of 0) past.log))
        (same_Some (VmSlot p.vms) x e) vms_at
    part_at (suc zero) x e =
        subst (λ (y : Slot A). IsPart l end 1 y × ((log_of y).calls ≡ calls_on (part_of 1) past.log))
        (same_Some (SharedSlot p.shared) x e) shared_at
    part_at (suc (suc j)) x e =
        let g = guest_in_slot p.guests.items j x e in
        let less : j < 64 = let b = below p.guests.items j g.0 g.1 in omega (arith, b, many) in
        subst
        (λ (y : Slot A). IsPart l end (suc (suc j)) y
        × ((log_of y).calls ≡ calls_on (part_of (suc (suc j))) past.log)) g.2
        (guest_at j g.0 less g.1)

    pub slots_long : length (slots_of p) ≡ parts
    slots_long = let n = guests_long p.guests.items in omega (arith, n, many)

    pub ends_in : (slots : List (Option (Slot A))) (cpus : List CpuState)
        → slots ≡ map (λ (x : Slot A). Some x) (slots_of p)
        → cpus ≡ p.cpus.items
        → IsEndIn p.layout slots cpus
    ends_in slots cpus is_slots is_cpus = subst (IsEndIn p.layout slots) (sym is_cpus) record {
      found = slots_of p;
      slots_are = is_slots;
      end = record {
        all = slots_long;
        count = omega (arith, p.counted, p.cpus.ok.0);
        left =
            record {
              ready = past.ready;
              whole = kept_of p;
              log = past.log;
              history = past.history;
              cpus = own_at;
              parts = part_at;
            };
      };
    }
