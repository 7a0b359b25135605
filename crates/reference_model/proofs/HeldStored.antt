-- What there is once a call is stored, as a state.
use Rattle.std.proofs.Common.{◌≡◌, ℕ, ◌+◌, ◌-◌, refl, ap, ◌∙◌, subst, arith, List, length, [], ◌∷◌, ◌++◌, length-append}
use Rattle.std.specs.Prelude.{Bool, true, false, ◌==◌, if◌then◌else◌, Option, Some, None}
use Rattle.std.proofs.lemmas.Bool.Decides.{nat_tests}
use mathlib.Core.Path.{fun_ext}
use Rattle.call_table.specs.declared.reply.Call.{Call}
use Rattle.page_state.specs.Layouts.{Layout}
use Rattle.page_state.proofs.Common.{eq-same}
use Rattle.reference_model.specs.help.Held.{HeldStored}
use Rattle.reference_model.specs.model.Stored.{left_of}
use Rattle.reference_model.specs.model.Stored.{Stores}
use Rattle.reference_model.specs.model.Parts.{uses_vms, uses_shared, is_slot}
use Rattle.reference_model.specs.model.Rules.{names}
use Rattle.reference_model.specs.model.State.{Vms, Shared, Guest, Cpu, Contents, Rooms, Reference, put_at}
use Rattle.reference_model.specs.model.Step.{stored}
use Rattle.reference_model.specs.model.Used.{put_guest, room_at, put_room, put_back, rooms_of, put_rooms}

-- a part that stores the call where it is used has the next content there
content-is : {X : Type 0} (used : Bool) (c : Call) (y : X) (before after : X × List Call)
    → Stores used c (if used then y else before.0) before after
    → after.0 ≡ (if used then y else before.0)
content-is true c y before after h = ap (λ p. p.0) h
content-is false c y before after h = ap (λ p. p.0) h

-- and its log has room for one call less there
left-is : {X : Type 0} (l : Layout) (used : Bool) (c : Call) (next : X) (before after : X × List Call)
    → Stores used c next before after
    → left_of l after.1 ≡ (if used then left_of l before.1 - 1 else left_of l before.1)
left-is l true c next before after h =
    let n : length after.1 ≡ length (before.1 ++ c ∷ []) = ap (λ p. length p.1) h in
    let m : length (before.1 ++ c ∷ []) ≡ length before.1 + 1 = length-append before.1 (c ∷ []) in
    omega (arith, n, m)
left-is l false c next before after h = ap (λ p. left_of l p.1) h

-- the room of a part that is used is what is stored there
room-is : (used : Bool) (n : ℕ) → (if used then n - 1 else n) ≡ (if used then (if used then n else 0) - 1 else n)
room-is true n = refl
room-is false n = refl

eq-turned : (a b : ℕ) → (a == b) ≡ (b == a)
eq-turned a b = grind (arith, nat_tests)

module _ (l : Layout) (c : Call) where
  -- the guest of a slot
  guest-content : (slot : Option ℕ) (y : Guest) (before after : ℕ → Guest × List Call) (v : ℕ)
      → Stores (is_slot slot v) c (put_guest (λ u. (before u).0) slot y v) (before v) (after v)
      → (after v).0 ≡ put_guest (λ u. (before u).0) slot y v
  guest-content None y before after v h = ap (λ p. p.0) h
  guest-content (Some u) y before after v h = content-is (v == u) c y (before v) (after v) h

  guest-room : (slot : Option ℕ) (next : Guest) (before after : ℕ → Guest × List Call) (v : ℕ)
      → Stores (is_slot slot v) c next (before v) (after v)
      → left_of l (after v).1
      ≡ put_room (λ u. left_of l (before u).1) slot (room_at (λ u. left_of l (before u).1) slot - 1) v
  guest-room None next before after v h = ap (λ p. left_of l p.1) h
  guest-room (Some u) next before after v h = left-is l (v == u) c next (before v) (after v) h ∙ at (v == u) refl
    where
      at : (b : Bool)
          → (v == u) ≡ b
          → (if b then left_of l (before v).1 - 1 else left_of l (before v).1)
          ≡ (if b then left_of l (before u).1 - 1 else left_of l (before v).1)
      at true e = ap (λ w. left_of l (before w).1 - 1) (eq-same v u e)
      at false e = refl

  -- a CPU
  cpu-content : (y : Cpu) (before after : ℕ → Cpu × List Call) (k : ℕ)
      → Stores (c.cpu == k) c (put_at (λ j. (before j).0) c.cpu y k) (before k) (after k)
      → (after k).0 ≡ put_at (λ j. (before j).0) c.cpu y k
  cpu-content y before after k h =
      content-is (k == c.cpu) c y (before k) (after k)
      (subst (λ b. Stores b c (put_at (λ j. (before j).0) c.cpu y k) (before k) (after k)) (eq-turned c.cpu k) h)

  cpu-room : (next : Cpu) (before after : ℕ → Cpu × List Call) (k : ℕ)
      → Stores (c.cpu == k) c next (before k) (after k)
      → left_of l (after k).1 ≡ put_at (λ j. left_of l (before j).1) c.cpu (left_of l (before c.cpu).1 - 1) k
  cpu-room next before after k h =
      left-is l (k == c.cpu) c next (before k) (after k)
      (subst (λ b. Stores b c next (before k) (after k)) (eq-turned c.cpu k) h)
      ∙ at (k == c.cpu) refl
    where
      at : (b : Bool)
          → (k == c.cpu) ≡ b
          → (if b then left_of l (before k).1 - 1 else left_of l (before k).1)
          ≡ (if b then left_of l (before c.cpu).1 - 1 else left_of l (before k).1)
      at true e = ap (λ j. left_of l (before j).1 - 1) (eq-same k c.cpu e)
      at false e = refl

-- states and rooms by their parts
abbrev contents : Vms → Shared → (ℕ → Guest) → (ℕ → Cpu) → Contents
contents a b c d = record { vms = a; shared = b; guest = c; cpu = d }

contents-same : {a a' : Vms} {b b' : Shared} {c c' : ℕ → Guest} {d d' : ℕ → Cpu}
    → a ≡ a'
    → b ≡ b'
    → c ≡ c'
    → d ≡ d'
    → contents a b c d ≡ contents a' b' c' d'
contents-same p q r s = rw (p, q, r, s) refl

abbrev rooms : ℕ → ℕ → (ℕ → ℕ) → (ℕ → ℕ) → Rooms
rooms a b c d = record { vms = a; shared = b; guest = c; cpu = d }

rooms-same : {a a' b b' : ℕ} {c c' d d' : ℕ → ℕ} → a ≡ a' → b ≡ b' → c ≡ c' → d ≡ d' → rooms a b c d ≡ rooms a' b' c' d'
rooms-same p q r s = rw (p, q, r, s) refl

reference-same : {a a' : Contents} {b b' : Rooms}
    → a ≡ a'
    → b ≡ b'
    → ◌≡◌ {A = Reference} (record { contents = a; rooms = b }) (record { contents = a'; rooms = b' })
reference-same p q = rw (p, q) refl

pub held_stored : HeldStored
unfolding put_back put_rooms rooms_of stored
held_stored l before after c y h =
    let uses = uses_vms (names c.step) in
    let shares = uses_shared (names c.step) c.slot in
    reference-same
    (contents-same (content-is uses c y.vms before.vms after.vms h.vms)
    (content-is shares c y.shared before.shared after.shared h.shared)
    (fun_ext (λ v. guest-content l c c.slot y.guest before.guest after.guest v (h.guest v)))
    (fun_ext (λ k. cpu-content l c y.cpu before.cpu after.cpu k (h.cpu k))))
    (rooms-same (left-is l uses c _ before.vms after.vms h.vms ∙ room-is uses (left_of l before.vms.1))
    (left-is l shares c _ before.shared after.shared h.shared ∙ room-is shares (left_of l before.shared.1))
    (fun_ext (λ v. guest-room l c c.slot _ before.guest after.guest v (h.guest v)))
    (fun_ext (λ k. cpu-room l c _ before.cpu after.cpu k (h.cpu k))))
