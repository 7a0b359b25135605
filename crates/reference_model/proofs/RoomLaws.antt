-- Laws of the rooms of logs.
use Rattle.std.proofs.Common.{◌≡◌, ◌≢◌, ℕ, suc, ◌+◌, ◌-◌, refl, ap, sym, ◌∙◌, subst, arith, inl, inr, List, [], ◌∷◌, filter, length, All}
use Rattle.std.specs.Prelude.{Bool, true, false, ◌&&◌, ◌||◌, ◌==◌, is_some, Option, Some, None, if◌then◌else◌}
use Rattle.std.proofs.lemmas.Bool.Decides.{nat_tests}
use Rattle.call_table.specs.declared.reply.Call.{Call}
use Rattle.call_table.specs.declared.reply.Refusal.TheVariants.{LogFull}
use Rattle.call_table.specs.declared.reply.Reply.{Reply}
use Rattle.call_table.specs.declared.reply.Reply.TheVariants.{Refused}
use Rattle.reference_model.specs.model.Boot.{boot}
use Rattle.reference_model.specs.help.Conditions.{one}
use Rattle.reference_model.specs.model.History.{IsStored}
use Rattle.page_state.specs.Layouts.{Layout}
use Rattle.reference_model.specs.model.Parts.{vm_part, shared_part, guest_part, uses_vms, uses_shared, is_slot}
use Rattle.reference_model.specs.model.Rules.{names, call_uses}
use Rattle.reference_model.specs.model.Used.{rooms_of, put_rooms, room_at, put_room}
use Rattle.reference_model.specs.help.RoomLaws.{RoomsFall, StoredFalls, RunRooms}
use Rattle.reference_model.specs.model.Run.{Runs}
use Rattle.reference_model.specs.model.State.{Reference, Rooms}
use Rattle.reference_model.specs.model.Step.{is_full, stored, Steps}
use Rattle.page_state.proofs.Common.{both, or-neither, eq-same}
use Rattle.reference_model.proofs.Ends.{filter-true, filter-false}

fall : (b : Bool) (n : ℕ)
    → (b && (if b then n else 0) == 0) ≡ false
    → (if b then (if b then n else 0) - 1 else n) + one b ≡ n
fall true n h = go n h
  where
    go : (n : ℕ) → (n == 0) ≡ false → n - 1 + 1 ≡ n
    go n h = grind (arith, nat_tests)
fall false n h = omega arith

fall-one : (b : Bool) (m n : ℕ) → (b ≡ true → m ≡ n) → (m == 0) ≡ false → (if b then m - 1 else n) + one b ≡ n
fall-one true m n e h = go m h ∙ e refl
  where
    go : (n : ℕ) → (n == 0) ≡ false → n - 1 + 1 ≡ n
    go n h = grind (arith, nat_tests)
fall-one false m n e h = omega arith

fall-slot : (rooms : ℕ → ℕ) (slot : Option ℕ) (v : ℕ)
    → (is_some slot && room_at rooms slot == 0) ≡ false
    → put_room rooms slot (room_at rooms slot - 1) v + one (is_slot slot v) ≡ rooms v
fall-slot rooms None v h = omega arith
fall-slot rooms (Some u) v h = fall-one (v == u) (rooms u) (rooms v) (λ e. ap rooms (sym (eq-same v u e))) h

turned : (m n : ℕ) → (m == n) ≡ (n == m)
turned m n = elim (both (m == n)) [
  | inl e ↦ e ∙ sym (go m n e)
  | inr e ↦ e ∙ sym (no-go m n e)
]
  where
    go : (m n : ℕ) → (m == n) ≡ true → (n == m) ≡ true
    go m n h = grind (arith, nat_tests)

    no-go : (m n : ℕ) → (m == n) ≡ false → (n == m) ≡ false
    no-go m n h = grind (arith, nat_tests)

stored-falls : (c : Call) (r : Rooms)
    → is_full (names c.step) c.slot (rooms_of (names c.step) c.slot c.cpu r) ≡ false
    → RoomsFall c r (put_rooms (names c.step) c.slot c.cpu r (stored (rooms_of (names c.step) c.slot c.cpu r)))
unfolding is_full stored rooms_of put_rooms
stored-falls c r h =
    let n = names c.step in
    let vm = uses_vms n && (if uses_vms n then r.vms else 0) == 0 in
    let sh = uses_shared n c.slot && (if uses_shared n c.slot then r.shared else 0) == 0 in
    let gu = is_some c.slot && room_at r.guest c.slot == 0 in
    let a = or-neither (r.cpu c.cpu == 0 || vm || sh) gu h in
    let b = or-neither (r.cpu c.cpu == 0 || vm) sh a.0 in
    let d = or-neither (r.cpu c.cpu == 0) vm b.0 in
    record {
      vms = fall (uses_vms (names c.step)) r.vms d.1;
      shared = fall (uses_shared (names c.step) c.slot) r.shared b.1;
      guest = λ v. fall-slot r.guest c.slot v a.1;
      cpu =
          λ k. ap (λ b. (if k == c.cpu then r.cpu c.cpu - 1 else r.cpu k) + one b) (turned c.cpu k)
          ∙ fall-one (k == c.cpu) (r.cpu c.cpu) (r.cpu k) (λ e. ap r.cpu (sym (eq-same k c.cpu e))) d.0;
    }

pub stored_falls : StoredFalls
stored_falls l s t c h n = elim (h.on.answers) [
  | inl p ↦ absurd (n p.reply)
  | inr p ↦ subst (λ r. RoomsFall c s.rooms r)
      (sym (ap (λ (u : Reference). u.rooms) h.next ∙ ap (put_rooms (names c.step) c.slot c.cpu s.rooms) p.rooms))
      (stored-falls c s.rooms p.room)
]

stored-not-full : (reply : Reply) → IsStored reply → reply ≢ Refused LogFull
stored-not-full reply h e = let bad : ⊥ = subst IsStored e h in bad

-- one log over a run
told : (room : Rooms → ℕ) (test : Call → Bool)
    → ((c : Call) (r q : Rooms) → RoomsFall c r q → room q + one (test c) ≡ room r)
    → (l : Layout) (cs : List Call) (s t : Reference)
    → Runs (Steps l) s cs t
    → All (λ c. IsStored c.reply) cs
    → room t.rooms + length (filter test cs) ≡ room s.rooms
told room test one-call l [] s t run all =
    ap (λ n. n + 0) (ap (λ (u : Reference). room u.rooms) (sym run)) ∙ omega arith
told room test one-call l (c ∷ cs) s t run all =
    let more : room t.rooms + length (filter test cs) ≡ room run.0.rooms =
    told room test one-call l cs run.0 t run.2 (λ k d less. all (suc k) d (omega arith)) in
    let first : room run.0.rooms + one (test c) ≡ room s.rooms =
    one-call c s.rooms run.0.rooms
    (stored_falls l s run.0 c run.1 (stored-not-full c.reply (all 0 c (omega arith)))) in
    let size : length (filter test (c ∷ cs)) ≡ one (test c) + length (filter test cs) = size-of (test c) refl in
    omega arith
  where
    size-of : (b : Bool) → test c ≡ b → length (filter test (c ∷ cs)) ≡ one b + length (filter test cs)
    size-of true e = let same : length (filter test (c ∷ cs)) ≡ length (c ∷ filter test cs) =
        ap length (filter-true test c cs e) in
        same ∙ omega arith
    size-of false e = let same : length (filter test (c ∷ cs)) ≡ length (filter test cs) =
        ap length (filter-false test c cs e) in
        omega arith

pub run_rooms : RunRooms
run_rooms l cs t run all = record {
  vms = told (λ r. r.vms) (call_uses vm_part) (λ c r q h. h.vms) l cs (boot l) t run.leads all;
  shared = told (λ r. r.shared) (call_uses shared_part) (λ c r q h. h.shared) l cs (boot l) t run.leads all;
  guest = λ v. told (λ r. r.guest v) (call_uses (guest_part v)) (λ c r q h. h.guest v) l cs (boot l) t run.leads all;
  cpu = λ k. told (λ r. r.cpu k) (λ (c : Call). c.cpu == k) (λ c r q h. h.cpu k) l cs (boot l) t run.leads all;
}
