-- Where a log is full after the calls of a run, the model's first test refuses a step that it would store.
use Rattle.std.proofs.Common.{◌≡◌, ℕ, zero, suc, ◌+◌, ◌<◌, ◌==◌, Bool, true, false, refl, sym, ap, subst, ◌∙◌, arith, inl, inr, ◌⊎◌, List, [], ◌∷◌, ◌++◌, length, take, Option, Some, None}
use Rattle.std.specs.Prelude.{◌||◌, ◌&&◌, All, Contains, get_or, if◌then◌else◌, is_some}
use Rattle.page_state.proofs.Common.{both, if-false, if-true}
use Rattle.page_state.specs.Layouts.{Layout}
use Rattle.call_table.specs.declared.reply.Call.{Call}
use Rattle.call_table.specs.declared.step.Step.{Step}
use Rattle.reference_model.proofs.RoomLaws.{run_rooms}
use Rattle.reference_model.specs.help.RoomLaws.{RoomsLeft}
use Rattle.reference_model.specs.model.History.{IsStored, calls_by, calls_on}
use Rattle.reference_model.specs.model.Parts.{Names, uses_shared, uses_vms}
use Rattle.reference_model.specs.model.Rules.{guest_slot, names}
use Rattle.reference_model.specs.model.Run.{IsRun}
use Rattle.reference_model.specs.model.State.{Reference, Rooms}
use Rattle.reference_model.specs.model.Step.{is_full}
use Rattle.reference_model.specs.model.Used.{room_at, rooms_of}
use Rattle.hypercalls.specs.Uses.{by_slot, or_vms, parts_of}
use Rattle.part_table.specs.Before.{before_own}
use Rattle.part_table.specs.Parts.{in_order, part_of}
use Rattle.race_outcomes.specs.Laws.{HasFullLog}

or_first : (a b c d : Bool) → a ≡ true → (a || b || c || d) ≡ true
or_first true b c d e = refl
or_first false b c d e = absurd (cc)

or_second : (a b c d : Bool) → b ≡ true → (a || b || c || d) ≡ true
or_second true b c d e = refl
or_second false true c d e = refl
or_second false false c d e = absurd (cc)

or_third : (a b c d : Bool) → c ≡ true → (a || b || c || d) ≡ true
or_third true b c d e = refl
or_third false true c d e = refl
or_third false false true d e = refl
or_third false false false d e = absurd (cc)

or_fourth : (a b c d : Bool) → d ≡ true → (a || b || c || d) ≡ true
or_fourth true b c d e = refl
or_fourth false true c d e = refl
or_fourth false false true d e = refl
or_fourth false false false d e = e

-- the room of a part's log, by number
abbrev room_of : Rooms → ℕ → ℕ
room_of r zero = r.vms
room_of r (suc zero) = r.shared
room_of r (suc (suc v)) = r.guest v

one_in : {X : Type 0} (x y : X) → Contains (x ∷ []) y → x ≡ y
one_in x y (zero, less, e) = e
one_in x y (suc i, less, e) = absurd (omega (arith, less))

two_in : {X : Type 0} (x z y : X) → Contains (x ∷ z ∷ []) y → (x ≡ y) ⊎ (z ≡ y)
two_in x z y (zero, less, e) = inl e
two_in x z y (suc zero, less, e) = inr e
two_in x z y (suc (suc i), less, e) = absurd (omega (arith, less))

none_in : {X : Type 0} (y : X) → Contains [] y → ⊥
none_in y (i, less, e) = omega (arith, less)

module _ (n : Names) (slot : Option ℕ) (cpu : ℕ) (r : Rooms) where
  abbrev Full : Type 0
  Full = is_full n slot (rooms_of n slot cpu r) ≡ true

  abbrev vms_full : Bool
  vms_full = uses_vms n && (if uses_vms n then r.vms else 0) == 0

  abbrev shared_full : Bool
  shared_full = uses_shared n slot && (if uses_shared n slot then r.shared else 0) == 0

  abbrev guest_full : Bool
  guest_full = is_some slot && room_at r.guest slot == 0

  full_own : r.cpu cpu ≡ 0 → Full
  unfolding is_full rooms_of
  full_own e = or_first (r.cpu cpu == 0) vms_full shared_full guest_full (rw e refl)

  full_vms : uses_vms n ≡ true → r.vms ≡ 0 → Full
  unfolding is_full rooms_of
  full_vms u e = or_second (r.cpu cpu == 0) vms_full shared_full guest_full (rw (u, e) refl)

  full_shared : uses_shared n slot ≡ true → r.shared ≡ 0 → Full
  unfolding is_full rooms_of
  full_shared u e = or_third (r.cpu cpu == 0) vms_full shared_full guest_full (rw (u, e) refl)

  full_guest : (v : ℕ) → slot ≡ Some v → r.guest v ≡ 0 → Full
  unfolding is_full rooms_of
  full_guest v u e = or_fourth (r.cpu cpu == 0) vms_full shared_full guest_full (rw (u, e) refl)

  slot_room : (v k : ℕ) → v + 2 ≡ k → room_of r k ≡ 0 → r.guest v ≡ 0
  slot_room v k e none = ap (room_of r) (let same : suc (suc v) ≡ k = omega arith in same) ∙ none

  by_parts : (k : ℕ) (b : Bool) (o : Option ℕ)
      → uses_shared n slot ≡ b
      → slot ≡ o
      → Contains (in_order (by_slot b o)) k
      → room_of r k ≡ 0
      → Full
  by_parts k true None u is there none = full_shared u (ap (room_of r) (one_in 1 k there) ∙ none)
  by_parts k false None u is there none = absurd (none_in k there)
  by_parts k true (Some v) u is there none = by (two_in 1 (v + 2) k there)
    where
      by : (1 ≡ k) ⊎ (v + 2 ≡ k) → Full
      by (inl e) = full_shared u (ap (room_of r) e ∙ none)
      by (inr e) = full_guest v is (slot_room v k e none)
  by_parts k false (Some v) u is there none = full_guest v is (slot_room v k (one_in (v + 2) k there) none)

  full_part : (k : ℕ) → Contains (in_order (parts_of n slot)) k → room_of r k ≡ 0 → Full
  full_part k there none = by (both (uses_vms n))
    where
      by : ((uses_vms n) ≡ true) ⊎ ((uses_vms n) ≡ false) → Full
      by (inl u) =
          let in_vms : Contains (in_order (or_vms true (by_slot (uses_shared n slot) slot))) k =
          subst (λ (b : Bool). Contains (in_order (or_vms b (by_slot (uses_shared n slot) slot))) k) u there in
          full_vms u (ap (room_of r) (one_in 0 k in_vms) ∙ none)
      by (inr u) =
          by_parts k (uses_shared n slot) slot refl refl
          (subst (λ (b : Bool). Contains (in_order (or_vms b (by_slot (uses_shared n slot) slot))) k) u there) none

-- after a run of stored calls
module _ (l : Layout) (there : List Call) (u : Reference) (run : IsRun l there u)
    (stored : All (λ c. IsStored c.reply) there) where
  left : RoomsLeft l there u.rooms
  left = run_rooms l there u run stored

  part_room : (k : ℕ) → length (calls_on (part_of k) there) ≡ l.config.log → room_of u.rooms k ≡ 0
  part_room zero e = let r = left.vms in omega (arith, r, e)
  part_room (suc zero) e = let r = left.shared in omega (arith, r, e)
  part_room (suc (suc v)) e = let r = left.guest v in omega (arith, r, e)

  -- a log that would store a CPU's step is full
  pub full_there : (cpu : ℕ) (step : Step)
      → (length (calls_by cpu there) ≡ l.config.log)
      ⊎ ((k : ℕ)
      × Contains (in_order (parts_of (names step) (guest_slot (u.contents.cpu cpu) step))) k
      × (length (calls_on (part_of k) there) ≡ l.config.log))
      → HasFullLog u cpu step
  full_there cpu step (inl e) =
      full_own (names step) (guest_slot (u.contents.cpu cpu) step) cpu u.rooms
      (let r = left.cpu cpu in omega (arith, r, e))
  full_there cpu step (inr f) =
      full_part (names step) (guest_slot (u.contents.cpu cpu) step) cpu u.rooms f.0 f.1 (part_room f.0 f.2)

-- a CPU's own calls before one of them

pub own_taken : (cpu n : ℕ) (xs : List Call) → calls_by cpu (before_own cpu n xs) ≡ take n (calls_by cpu xs)
own_taken cpu zero [] = refl
own_taken cpu (suc n) [] = refl
own_taken cpu zero (c ∷ xs) = go (c.cpu == cpu) refl (own_taken cpu zero xs)
  where
    go : (b : Bool)
        → (c.cpu == cpu) ≡ b
        → calls_by cpu (before_own cpu zero xs) ≡ []
        → calls_by cpu (if b then [] else c ∷ before_own cpu zero xs) ≡ []
    go true e h = refl
    go false e h =
        if-false (c.cpu == cpu) (c ∷ calls_by cpu (before_own cpu zero xs))
        (calls_by cpu (before_own cpu zero xs)) e
        ∙ h
own_taken cpu (suc n) (c ∷ xs) = go (c.cpu == cpu) refl (own_taken cpu n xs) (own_taken cpu (suc n) xs)
  where
    go : (b : Bool)
        → (c.cpu == cpu) ≡ b
        → calls_by cpu (before_own cpu n xs) ≡ take n (calls_by cpu xs)
        → calls_by cpu (before_own cpu (suc n) xs) ≡ take (suc n) (calls_by cpu xs)
        → calls_by cpu (if b then c ∷ before_own cpu n xs else c ∷ before_own cpu (suc n) xs)
        ≡ take (suc n) (if b then c ∷ calls_by cpu xs else calls_by cpu xs)
    go true e h _ =
        if-true (c.cpu == cpu) (c ∷ calls_by cpu (before_own cpu n xs)) (calls_by cpu (before_own cpu n xs)) e
        ∙ ap (λ cs. c ∷ cs) h
    go false e _ h =
        if-false (c.cpu == cpu) (c ∷ calls_by cpu (before_own cpu (suc n) xs))
        (calls_by cpu (before_own cpu (suc n) xs)) e
        ∙ h
