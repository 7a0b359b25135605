-- A state on lists whose parts are those of the world's parts is the state that these stand for.
use Rattle.std.proofs.Common.{◌≡◌, ℕ, zero, suc, ◌-◌, ◌<◌, refl, ap, sym, ◌∙◌, arith, List, [], ◌∷◌, length, map, All}
use Rattle.std.specs.Prelude.{get_or, slice_get}
use mathlib.Core.Path.{fun_ext}
use Rattle.page_state.specs.declared.row.Row.{Row}
use Rattle.reference_model.specs.model.State.{Guest, Cpu, Shared, Slot, no_guest, no_cpu, no_slot}
use Rattle.std.proofs.lemmas.List.{get_or-map, length-map}
use Rattle.part_types.specs.Logs.{StoredCalls, IsOfSize}
use Rattle.part_types.specs.View.{vm_slots, shared_of, guest_held, cpu_of}
use Rattle.hypercalls.specs.declared.parts.Parts.{Parts}
use Rattle.hypercalls.specs.Stands.{at_place, parts_layout, state_of}
use Rattle.page_state.specs.LayoutView.{layout_of}
use Rattle.ghost_spec.specs.declared.lists.GhostLists.{GhostLists}
use Rattle.ghost_spec.specs.States.{ghost_state, guest_in, slot_in}
use Rattle.ghost_spec.specs.Views.{cpu_in, shared_in_lists}
use Rattle.ghost_oracle.specs.Found.{found_state, with_row}
use Rattle.ghost_oracle.proofs.Reached.{state_same}

-- what a list gives at a place, or else the blank
pub placed : {P X : Type 0} (blank : X) (f : P → X) (xs : List P) (v : ℕ)
    → get_or (map f xs) v blank ≡ at_place blank f (slice_get xs v)
placed blank f [] v = refl
placed blank f (x ∷ xs) zero = refl
placed blank f (x ∷ xs) (suc v) = placed blank f xs v

-- the items at one place, where what two lists give is the same everywhere
pub held_at : {X Y Z : Type 0} (f : X → Z) (blank : Z) (g : Y → Z) (xs : List X) (ys : List Y) (i : ℕ) (x : X) (y : Y)
    → ◌≡◌ {A = ℕ → Z} (λ v. get_or (map f xs) v blank) (λ v. at_place blank g (slice_get ys v))
    → i < length xs
    → i < length ys
    → x ≡ get_or xs i x
    → y ≡ get_or ys i y
    → f x ≡ g y
held_at f blank g xs ys i x y same less within first second =
    ap f first ∙ sym (get_or-map f xs i x blank less) ∙ ap (λ (h : ℕ → _). h i) same ∙ sym (placed blank g ys i)
    ∙ get_or-map g ys i y blank within ∙ ap g (sym second)

-- a log's room is what its calls leave
left : (most : ℕ) (log : StoredCalls) → IsOfSize most log → log.room ≡ most - length log.calls
left most log h = omega (arith, h)

full_room : (most room : ℕ) (log : StoredCalls) → IsOfSize most log → log.room ≡ room → room ≡ most - length log.calls
full_room most room log h k = sym k ∙ left most log h

none_left : (n : ℕ) → n ≡ n - 0
none_left n = omega arith

placed_room : {P : Type 0} (log : P → StoredCalls) (most : ℕ) (xs : List P) (v : ℕ)
    → All (λ p. IsOfSize most (log p)) xs
    → get_or (map (λ p. (log p).room) xs) v most ≡ most - length (at_place [] (λ p. (log p).calls) (slice_get xs v))
placed_room log most [] v h = none_left most
placed_room log most (x ∷ xs) zero h = left most (log x) (h 0 x (omega arith))
placed_room log most (x ∷ xs) (suc v) h = placed_room log most xs v (λ k d less. h (suc k) d (omega arith))

module _ {A : Type 0} (p : Parts A) (g : GhostLists) (row : ℕ → Row) where
  -- the parts of a state on lists are those of the parts, but for the rows
  pub record HasParts : Type 0 where
    pub layout : layout_of g.layout ≡ parts_layout p
    pub slots : (v : ℕ) → get_or (map slot_in g.vms.items) v (no_slot 1) ≡ (vm_slots p.vms).slot v
    pub shared : shared_in_lists g.shared ≡ with_row row (shared_of p.shared)
    pub guests : map guest_in g.guests.items ≡ map guest_held p.guests.items
    pub cpus : map cpu_in g.cpus.items ≡ map cpu_of p.cpus.items
    pub vms_room : p.vms.log.room ≡ g.rooms.vms
    pub shared_room : p.shared.log.room ≡ g.rooms.shared
    pub guest_rooms : g.rooms.guests.items ≡ map (λ x. x.log.room) p.guests.items
    pub cpu_rooms : g.rooms.cpus.items ≡ map (λ k. k.log.room) p.cpus.items

  pub is_found : HasParts → ghost_state g ≡ found_state row (state_of p)
  is_found h =
      let log : g.layout.config.log ≡ p.layout.config.log = ap (λ l. l.config.log) h.layout in
      state_same (ghost_state g) (found_state row (state_of p))
      (ap (λ (f : ℕ → Slot). record { slot = f }) (fun_ext h.slots))
      h.shared
      (λ v. ap (λ (gs : List Guest). get_or gs v no_guest) h.guests ∙ placed no_guest guest_held p.guests.items v)
      (λ c. ap (λ (ks : List Cpu). get_or ks c no_cpu) h.cpus ∙ placed no_cpu cpu_of p.cpus.items c)
      (full_room p.layout.config.log g.rooms.vms p.vms.log p.vm_log h.vms_room)
      (full_room p.layout.config.log g.rooms.shared p.shared.log p.shared_log h.shared_room)
      (λ v. ap (λ (rs : List ℕ). get_or rs v g.layout.config.log) h.guest_rooms
      ∙ ap (λ n. get_or (map (λ x. x.log.room) p.guests.items) v n) log
      ∙ placed_room (λ x. x.log) p.layout.config.log p.guests.items v p.guest_logs)
      (λ c. ap (λ (rs : List ℕ). get_or rs c g.layout.config.log) h.cpu_rooms
      ∙ ap (λ n. get_or (map (λ k. k.log.room) p.cpus.items) c n) log
      ∙ placed_room (λ k. k.log) p.layout.config.log p.cpus.items c p.own_logs)

-- lists that give the same are as long
pub as_long : {P Q X : Type 0} (f : P → X) (g : Q → X) (xs : List P) (ys : List Q) (n : ℕ)
    → map f xs ≡ map g ys
    → length ys ≡ n
    → length xs ≡ n
as_long f g xs ys n h k = sym (length-map xs f) ∙ ap length h ∙ length-map ys g ∙ k

-- a Shared part that is another but for its rows is that one with its own rows
pub own_row : (x y : Shared) (row : ℕ → Row) → x ≡ with_row row y → x ≡ with_row x.row y
own_row x y row h = h ∙ ap (λ r. with_row r y) (sym (ap (λ (s : Shared). s.row) h))
