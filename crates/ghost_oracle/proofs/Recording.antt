-- A state on lists that says what is given, part by part, is the recorded state.
use Rattle.std.proofs.Common.{◌≡◌, ℕ, ◌<◌, List, All, Bool, true, false, Option, Some, None, length, map, get_or, set, refl, ap, ◌∙◌}
use Rattle.std.specs.Prelude.{is_some, option_map, if◌then◌else◌}
use mathlib.Core.Path.{fun_ext}
use Rattle.page_state.specs.Layouts.{Layout}
use Rattle.reference_model.specs.model.Parts.{uses_shared, uses_vms}
use Rattle.reference_model.specs.model.State.{Guest, Slot, all_rooms, blank, put_at, no_cpu, no_guest, no_shared, no_slot, no_vms}
use Rattle.reference_model.specs.model.Used.{put_back, put_guest, put_room, put_rooms}
use Rattle.part_types.specs.declared.parts.GuestPart.{GuestPart}
use Rattle.part_types.specs.View.{cpu_of, guest_held, shared_of, vm_slots}
use Rattle.hypercalls.specs.Stands.{at_place}
use Rattle.ghost_spec.specs.declared.lists.GhostLists.{GhostLists}
use Rattle.ghost_spec.specs.States.{ghost_state, slot_in}
use Rattle.ghost_spec.specs.Used.{guests_in, rooms_of}
use Rattle.ghost_spec.specs.Views.{cpu_in, shared_in_lists}
use Rattle.ghost_spec.proofs.Predictions.{put-items, put-list}
use Rattle.ghost_spec.proofs.Starts.{all-equal, all-same}
use Rattle.ghost_oracle.specs.Recorded.{Given, put_given, recorded, rooms_given, used_given, RecordsUsed}
use Rattle.ghost_oracle.proofs.Reached.{state_same}

-- a list of which each item stands for the blank, with another at one place
pub one_put : {X Y : Type 0} (view : Y → X) (d : X) (ys : List Y) (k : ℕ) (y : Y)
    → All (λ z. view z ≡ d) ys
    → k < length ys
    → ◌≡◌ {A = ℕ → X} (λ j. get_or (map view (set ys k y)) j d) (put_at (λ j. d) k (view y))
one_put {X} view d ys k y h less =
    put-list view d ys k y less ∙ ap (λ (f : ℕ → X). put_at f k (view y)) (fun_ext (all-same view d ys h))

-- the same of numbers
pub number_put : (d : ℕ) (ns : List ℕ) (k n : ℕ)
    → All (λ m. m ≡ d) ns
    → k < length ns
    → ◌≡◌ {A = ℕ → ℕ} (λ j. get_or (set ns k n) j d) (put_at (λ j. d) k n)
number_put d ns k n h less = put-items d ns k n less ∙ ap (λ (f : ℕ → ℕ). put_at f k n) (fun_ext (all-equal d ns h))

module _ {A : Type 0} (x : Given A) (l : Layout) (g : GhostLists) where
  -- the parts of a state on lists are those that are given
  pub record HasGiven : Type 0 where
    pub log : g.layout.config.log ≡ l.config.log
    pub slots : (v : ℕ) → get_or (map slot_in g.vms.items) v (no_slot 1) ≡ (at_place blank.vms vm_slots x.vms).slot v
    pub shared : shared_in_lists g.shared ≡ at_place blank.shared shared_of x.shared
    pub guests : guests_in g.guests.items ≡ put_given blank.guest guest_held x.guest
    pub cpus : (c : ℕ) → get_or (map cpu_in g.cpus.items) c no_cpu ≡ put_at blank.cpu x.own.id (cpu_of x.own) c
    pub vms_room : g.rooms.vms ≡ at_place l.config.log (λ v. v.log.room) x.vms
    pub shared_room : g.rooms.shared ≡ at_place l.config.log (λ s. s.log.room) x.shared
    pub guest_rooms : rooms_of l.config.log g.rooms.guests.items
        ≡ put_given (λ v. l.config.log) (λ p. p.log.room) x.guest
    pub cpu_rooms : rooms_of l.config.log g.rooms.cpus.items ≡ put_at (λ c. l.config.log) x.own.id x.own.log.room

  pub is_recorded : HasGiven → ghost_state g ≡ recorded x l
  is_recorded h =
      state_same (ghost_state g) (recorded x l)
      (ap (λ (f : ℕ → Slot). record { slot = f }) (fun_ext h.slots))
      h.shared
      (λ v. ap (λ f. f v) h.guests)
      h.cpus
      h.vms_room
      h.shared_room
      (λ v. ap (λ n. get_or g.rooms.guests.items v n) h.log ∙ ap (λ f. f v) h.guest_rooms)
      (λ c. ap (λ n. get_or g.rooms.cpus.items c n) h.log ∙ ap (λ f. f c) h.cpu_rooms)

-- a part that is given where it is used
used_place : {P X : Type 0} (b : Bool) (base other : X) (view : P → X) (o : Option P)
    → is_some o ≡ b
    → at_place base view o ≡ (if b then at_place other view o else base)
used_place true base other view None h = cc
used_place true base other view (Some p) h = refl
used_place false base other view None h = refl
used_place false base other view (Some p) h = cc

guest_place : {A : Type 0} (guests : ℕ → Guest) (o : Option (ℕ × GuestPart A))
    → put_given guests guest_held o
    ≡ put_guest guests (option_map (λ g. g.0) o) (at_place no_guest (λ g. guest_held g.1) o)
guest_place guests None = refl
guest_place guests (Some g) = refl

room_place : {A : Type 0} (rooms : ℕ → ℕ) (o : Option (ℕ × GuestPart A))
    → put_given rooms (λ g. g.log.room) o ≡ put_room rooms (option_map (λ g. g.0) o) (at_place 0 (λ g. g.1.log.room) o)
room_place rooms None = refl
room_place rooms (Some g) = refl

pub records_used : {A : Type 0} → RecordsUsed A
unfolding put_back put_rooms
records_used l n slot x h =
    let log = l.config.log in
    state_same (recorded x l)
    (record {
      contents = put_back n slot x.own.id blank (used_given x);
      rooms = put_rooms n slot x.own.id (all_rooms log) (rooms_given x);
    })
    (used_place (uses_vms n) no_vms no_vms vm_slots x.vms h.vms)
    (used_place (uses_shared n slot) no_shared no_shared shared_of x.shared h.shared)
    (λ v. ap (λ f. f v) (guest_place blank.guest x.guest)
    ∙ ap (λ o. put_guest blank.guest o (at_place no_guest (λ g. guest_held g.1) x.guest) v) h.guest)
    (λ c. refl)
    (used_place (uses_vms n) log 0 (λ v. v.log.room) x.vms h.vms)
    (used_place (uses_shared n slot) log 0 (λ s. s.log.room) x.shared h.shared)
    (λ v. ap (λ f. f v) (room_place (all_rooms log).guest x.guest)
    ∙ ap (λ o. put_room (all_rooms log).guest o (at_place 0 (λ g. g.1.log.room) x.guest) v) h.guest)
    (λ c. refl)
