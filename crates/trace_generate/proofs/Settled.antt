-- Calls that are surely refused or made, in logs that have room.
use Rattle.std.proofs.Common.{◌≡◌, ℕ, ◌+◌, ◌^◌, ◌<◌, ◌≤◌, Bool, true, false, refl, arith, sym, ap, subst, Option, Some, None}
use Rattle.std.specs.Prelude.{nat_lt, ◌||◌, length, if◌then◌else◌}
use Rattle.std.proofs.lemmas.Bool.Decides.{nat_tests}
use Rattle.page_state.proofs.Accepted.{carve_below}
use Rattle.page_state.specs.Accepted.{IsAcceptedLayout}
use Rattle.page_state.specs.LayoutFaults.{IsAccepted}
use Rattle.page_state.specs.Layouts.{Layout, is_memory}
use Rattle.page_state.specs.Regions.{Memory, has_memory, is_in_range}
use Rattle.page_state.specs.Tables.{needs}
use Rattle.call_table.specs.declared.reply.Refusal.{Refusal}
use Rattle.call_table.specs.declared.reply.Refusal.TheVariants.{NoPool}
use Rattle.call_table.specs.declared.reply.Reply.{Reply}
use Rattle.call_table.specs.declared.reply.Reply.TheVariants.{Done, Refused}
use Rattle.call_table.specs.declared.reply.Value.{Value}
use Rattle.call_table.specs.declared.step.Step.{Step}
use Rattle.call_table.specs.declared.step.Step.TheVariants.{ShareHyp, OwnerOf}
use Rattle.reference_model.proofs.conditions.RunsLegal.{accepted_usable}
use Rattle.reference_model.specs.model.Rules.{rule, guest_slot, names}
use Rattle.reference_model.specs.model.State.{Reference, all_rooms}
use Rattle.reference_model.specs.model.Step.{answer, fails, predict_step, is_full, is_short, predict, refusal}
use Rattle.reference_model.specs.model.Used.{Used, UsedRooms, rooms_of, used_of}
use Rattle.trace_generate.specs.Reading.{IsIn64Bits}
use Rattle.trace_generate.specs.Suggested.{IsChosen}
use Rattle.trace_generate.specs.Walks.{is_refusal, is_refused}
use Rattle.trace_generate.proofs.Walked.{share_refused, no_memory}

-- the carve-out of accepted memory is memory, and its first frame is in it
carve_memory : (m : Memory) → IsAccepted m → (f : ℕ) → is_in_range m.carve f ≡ true → has_memory m f ≡ true
carve_memory m a f h =
    let l : Layout = record { memory = m; config = record { cpus = 1; log = 1; geometry = 39 }; depth = 2 } in
    let accepted : IsAcceptedLayout l = record {
      memory = a;
      config =
          record {
            some_cpus = omega arith;
            cpus = omega arith;
            some_calls = omega arith;
            calls = omega arith;
            known = refl;
          };
      depth = refl;
    } in
    (accepted_usable l accepted).carve f h

first_in : (m : Memory) → IsAccepted m → is_in_range m.carve m.carve.first.0 ≡ true
first_in m a = within m.carve.first.0 m.carve.count a.pages.1
  where
    within : (first count : ℕ)
        → 1 ≤ count
        → is_in_range (record { first = record { 0 = first }; count = count }) first ≡ true
    within first count h = grind (arith, nat_tests)

-- who owns a memory frame: no test fails, whatever the call uses
none_short : (m n : ℕ) → (if nat_lt m 0 || nat_lt n 0 then Some NoPool else None) ≡ None
none_short m n = let a : nat_lt m 0 ≡ false = grind (arith, nat_tests) in
    let b : nat_lt n 0 ≡ false = grind (arith, nat_tests) in
    rw (a, b) refl

owner_fails : (l : Layout) (cpu : ℕ) (slot : Option ℕ) (f : ℕ) (x : Used)
    → is_memory l f ≡ true
    → fails l cpu slot (OwnerOf f) x ≡ None
unfolding fails refusal rule is_short needs
owner_fails l cpu slot f x e = rw e (none_short (length x.shared.free) (length x.guest.free))

either : (b : Bool) (p q : Reply × Used × UsedRooms)
    → b ≡ false
    → is_refusal q.0 ≡ false
    → is_refusal (if b then p else q).0 ≡ false
either true p q b e = cc
either false p q b e = e

answered : (o : Option Refusal) (x y : Used) (v : Value)
    → o ≡ None
    → is_refusal (elim o as (λ _. Reply × Used) [ Some why ↦ (Refused why, x) | None ↦ (Done v, y) ]).0 ≡ false
answered o x y v e =
    ap (λ p. is_refusal (elim p as (λ _. Reply × Used) [ Some why ↦ (Refused why, x) | None ↦ (Done v, y) ]).0) e

owner_predicted : (l : Layout) (cpu : ℕ) (slot : Option ℕ) (f : ℕ) (x : Used) (r : UsedRooms)
    → is_memory l f ≡ true
    → is_full (names (OwnerOf f)) slot r ≡ false
    → is_refusal (predict l cpu slot (OwnerOf f) x r).0 ≡ false
unfolding predict answer
owner_predicted l cpu slot f x r e room =
    either (is_full (names (OwnerOf f)) slot r) _ _ room
    (answered (fails l cpu slot (OwnerOf f) x) x _ _ (owner_fails l cpu slot f x e))

-- a log of one call has room
has_room : (s : Reference) (cpu f : ℕ)
    → s.rooms ≡ all_rooms 1
    → is_full (names (OwnerOf f)) (guest_slot (s.contents.cpu cpu) (OwnerOf f))
    (rooms_of (names (OwnerOf f)) (guest_slot (s.contents.cpu cpu) (OwnerOf f)) cpu s.rooms)
    ≡ false
unfolding is_full rooms_of
has_room s cpu f e = rw e refl

owner_made : (l : Layout) (s : Reference) (cpu f : ℕ)
    → is_memory l f ≡ true
    → s.rooms ≡ all_rooms 1
    → is_refused l s (record { cpu = cpu; step = OwnerOf f }) ≡ false
unfolding predict_step
owner_made l s cpu f e room =
    let step = OwnerOf f in
    let slot = guest_slot (s.contents.cpu cpu) step in
    owner_predicted l cpu slot f (used_of (names step) slot cpu s.contents) (rooms_of (names step) slot cpu s.rooms) e
    (has_room s cpu f room)

settled_numbers : (m : Memory)
    → IsAccepted m
    → (hostile : Bool)
    → IsIn64Bits (if hostile then ShareHyp 0xffff_ffff_ffff_ffff else OwnerOf m.carve.first.0)
settled_numbers m a true = (omega arith, tt)
settled_numbers m a false = (below m.carve.first.0 m.carve.count (carve_below m a), tt)
  where
    below : (first count : ℕ) → first + count ≤ 2 ^ 26 → first < 2 ^ 64
    below first count h = omega (arith, h)

settled_wanted : (l : Layout) (s : Reference) (cpu : ℕ) (hostile : Bool) → IsAccepted l.memory → s.rooms ≡ all_rooms 1
    → is_refused l s
    (record {
      cpu = cpu;
      step = if hostile then ShareHyp 0xffff_ffff_ffff_ffff
          else OwnerOf l.memory.carve.first.0;
    })
    ≡ hostile
settled_wanted l s cpu true a room = share_refused l s cpu 0xffff_ffff_ffff_ffff (no_memory l a)
settled_wanted l s cpu false a room =
    owner_made l s cpu l.memory.carve.first.0
    (carve_memory l.memory a l.memory.carve.first.0 (first_in l.memory a)) room

-- a settled call is as wanted
pub settled_call : (l : Layout) (s : Reference) (cpu : ℕ) (hostile : Bool) (step : Step)
    → IsAccepted l.memory
    → s.rooms ≡ all_rooms 1
    → cpu < l.config.cpus
    → step ≡ (if hostile then ShareHyp 0xffff_ffff_ffff_ffff else OwnerOf l.memory.carve.first.0)
    → IsChosen l s hostile (record { cpu = cpu; step = step })
settled_call l s cpu hostile step a room h e =
    let P : Step → Type 0 = λ p. IsChosen l s hostile (record { cpu = cpu; step = p }) in
    subst P (sym e)
    (record {
      cpu = h;
      numbers = settled_numbers l.memory a hostile;
      wanted = settled_wanted l s cpu hostile a room;
    })
