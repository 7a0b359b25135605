-- What a step decides to change of the slots and of its guest can be made.
use Rattle.std.proofs.Common.{◌≡◌, ℕ, ◌+◌, ◌^◌, ◌≤◌, ◌<◌, refl, ap, sym, ◌∙◌, subst, arith}
use Rattle.std.specs.Prelude.{Bool, true, false, ◌||◌, nat_le, nat_lt, is_some, is_none, unwrap_or, length, Option, Some, None}
use Rattle.std.proofs.lemmas.Bool.Decides.{nat_tests}
use Rattle.page_state.specs.declared.row.Usage.TheVariants.{InHand}
use Rattle.call_table.specs.declared.step.Step.{Step}
use Rattle.call_table.specs.declared.step.Step.TheVariants.{ShareHyp, UnshareHyp, DonateHyp, HypDonateHost, HostAbort, HostTranslate, HypTranslate, OwnerOf, Fund, Unfund, ShareGuest, UnshareGuest, DonateGuest, GuestShareHost, GuestUnshareHost, Install, Topup, ReclaimPage, ReclaimPool, FinishGuest, GuestRelax, GuestTranslate, MarkDying, VmReserve, VmOpen, VcpuLoad, VcpuPut, Teardown, VmRelease}
use Rattle.call_table.specs.declared.step.VmId.{VmId}
use Rattle.page_state.specs.Accepted.{IsAcceptedLayout}
use Rattle.page_state.specs.Layouts.{Layout}
use Rattle.page_state.specs.Map.{is_within}
use Rattle.page_state.specs.Regions.{end_of}
use Rattle.reference_model.specs.declared.changes.Changes.{Changes}
use Rattle.reference_model.specs.declared.changes.Loaded.{Loaded}
use Rattle.reference_model.specs.declared.changes.Stage.TheVariants.{Booked as booked, Installed as installed, Closing as closing_vm, Finished as finished}
use Rattle.reference_model.specs.declared.changes.Ticket.{Ticket}
use Rattle.reference_model.specs.claims.Bounds.{Bounded}
use Rattle.reference_model.specs.help.ChangeLaws.{PartsFit, PartChangesFit}
use Rattle.reference_model.specs.help.Conditions.{hyps, Legal, IsUsable, one, in_vm, guest_uses}
use Rattle.reference_model.specs.model.GuestRules.{ticket_vm, guest_table_count, is_guest}
use Rattle.reference_model.specs.model.Parts.{lacks_slot, has_stage, is_good_vm}
use Rattle.reference_model.specs.model.Rule.{Rule}
use Rattle.reference_model.specs.model.Rules.{rule, names, guest_slot}
use Rattle.reference_model.specs.model.SharedRules.{hand_of}
use Rattle.reference_model.specs.model.State.{Reference, empty, live, dying, vacant}
use Rattle.reference_model.specs.model.Step.{first_test}
use Rattle.reference_model.specs.model.Used.{Used, used_of}
use Rattle.reference_model.specs.model.VmRules.{vacant_slot, load_of, stand_eq}
use Rattle.page_state.proofs.Common.{and-both}
use Rattle.reference_model.proofs.Answers.{told-ok}
use Rattle.reference_model.proofs.ChangesUsed.{lacking}
use Rattle.reference_model.proofs.conditions.Bounding.{hand-few}
use Rattle.reference_model.proofs.conditions.Keeps.{loaded-at, staged-at}
use Rattle.reference_model.proofs.conditions.PageSteps.{live-alive, dying-alive, stands-alive}
use Rattle.reference_model.proofs.conditions.RangeMoves.{range-in, hand-some, hand-was, memory-of}
use Rattle.reference_model.proofs.conditions.RunsLegal.{accepted_usable, few-pages}
use Rattle.reference_model.proofs.conditions.Slots.{ticket-told, ticket-fits, ticket-slot, loaded-open}
use Rattle.reference_model.proofs.conditions.Tests.{Tested, tested}
use Rattle.reference_model.proofs.conditions.VmSteps.{has_stage-is, first-spec, some-is}

-- what a CPU has loaded, where it has something loaded
load-is : (o : Option Loaded) (d : Loaded) → is_some o ≡ true → o ≡ Some (unwrap_or o d)
load-is (Some w) d h = refl
load-is None d h = cc

module _ (l : Layout) (accepted : IsAcceptedLayout l) (s : Reference) (legal : Legal l s.contents)
    (bounded : Bounded l s) (cpu : ℕ) (known : cpu < l.config.cpus) where
  usable : IsUsable l
  usable = accepted_usable l accepted

  abbrev x_at : Option ℕ → Step → Used
  x_at slot step = used_of (names step) slot cpu s.contents

  abbrev r_at : Option ℕ → Step → Rule
  r_at slot step = rule l cpu slot step (x_at slot step)

  -- what the step's rule changes, where its tests pass
  abbrev FitsAt : Option ℕ → Step → Type 0
  FitsAt slot step =
      first_test (r_at slot step) (lacks_slot (names step) slot) ≡ None
      → PartsFit l (r_at slot step).changes (x_at slot step).guest

  pass : (slot : Option ℕ) (step : Step)
      → first_test (r_at slot step) (lacks_slot (names step) slot) ≡ None
      → Tested (r_at slot step) (lacks_slot (names step) slot)
  pass slot step h = tested (r_at slot step) (lacks_slot (names step) slot) h

  below : (m n : ℕ) → nat_lt n m ≡ true → n < m
  below m n h = grind (arith, nat_tests)

  at-most : (m n : ℕ) → nat_le n m ≡ true → n ≤ m
  at-most m n h = grind (arith, nat_tests)

  -- the CPU's hand has 1 to 512 frames, which are low
  hand-count : is_some (s.contents.cpu cpu).hand ≡ true → 1 ≤ (hand_of (s.contents.cpu cpu)).count
  hand-count some = hand-some (s.contents.cpu cpu).hand some (legal.slots.some_hand cpu)

  hand-most : is_some (s.contents.cpu cpu).hand ≡ true → (hand_of (s.contents.cpu cpu)).count ≤ 512
  hand-most some = hand-few (s.contents.cpu cpu).hand some (bounded.hands cpu)

  hand-low : is_some (s.contents.cpu cpu).hand ≡ true → end_of (hand_of (s.contents.cpu cpu)) ≤ 2 ^ 36
  hand-low some =
      let hand = hand_of (s.contents.cpu cpu) in
      let all = memory-of legal (hyps (InHand cpu)) refl hand.first.0 hand.count (hand-was legal cpu some) in
      let low = range-in l usable hand.first.0 hand.count (hand-count some) all in
      let few = few-pages l accepted in
      omega arith

  -- no guest holds a frame of the hand
  hand-apart : (v : ℕ)
      → is_some (s.contents.cpu cpu).hand ≡ true
      → (f : ℕ)
      → is_within (hand_of (s.contents.cpu cpu)).first.0 (hand_of (s.contents.cpu cpu)).count f ≡ true
      → guest_uses l.depth (s.contents.guest v) f ≡ 0
  hand-apart v some f w = legal.held.vm v f ∙ ap (λ c. one (in_vm v c)) (hand-was legal cpu some f w)

  -- the CPU's ticket is of a slot of the 64, of its generation
  ticket-low : (t : Ticket) → (s.contents.cpu cpu).ticket ≡ Some t → (ticket_vm (s.contents.cpu cpu)).slot < 64
  ticket-low t has =
      subst (λ (vm : VmId). vm.slot < 64) (sym (ticket-told (s.contents.cpu cpu) t has).0)
      (ticket-slot s.contents legal.slots cpu t has)

  ticket-few : (t : Ticket)
      → (s.contents.cpu cpu).ticket ≡ Some t
      → (ticket_vm (s.contents.cpu cpu)).generation + 1 < 2 ^ 64
  ticket-few t has =
      let same : t.vm.generation ≡ (s.contents.vms.slot t.vm.slot).generation =
      (legal.slots.agree.tickets.ticket cpu t has).generation in
      let most = bounded.generations t.vm.slot in
      let calls = accepted.config.calls in
      let here : t.vm.generation + 1 < 2 ^ 64 = omega arith in
      subst (λ (vm : VmId). vm.generation + 1 < 2 ^ 64) (sym (ticket-told (s.contents.cpu cpu) t has).0) here

  released : (a b : Bool)
      → has_stage booked (s.contents.cpu cpu) ≡ a
      → has_stage finished (s.contents.cpu cpu) ≡ b
      → (a || b) ≡ true
      → (t : Ticket) × ((s.contents.cpu cpu).ticket ≡ Some t)
  released true b p q h = let t = has_stage-is booked (s.contents.cpu cpu) p in (t.0, t.1)
  released false true p q h = let t = has_stage-is finished (s.contents.cpu cpu) q in (t.0, t.1)
  released false false p q h = cc

  -- the vCPU that the CPU has loaded is one of a slot's
  loaded-low : is_some (s.contents.cpu cpu).loaded ≡ true
      → ((load_of (s.contents.cpu cpu)).vm.slot < 64) × ((load_of (s.contents.cpu cpu)).vcpu < 8)
  loaded-low some =
      let k = load_of (s.contents.cpu cpu) in
      let has : (s.contents.cpu cpu).loaded ≡ Some k = load-is (s.contents.cpu cpu).loaded _ some in
      let up = loaded-open s.contents legal.slots cpu k has in
      let at = legal.slots.agree.loads.loaded cpu k has in
      (up.1, legal.slots.few_vcpus k.vm.slot k.vcpu cpu at.0)

  each : (step : Step) (o : Option ℕ) → o ≡ guest_slot (s.contents.cpu cpu) step → FitsAt o step
  unfolding rule used_of
  each (ShareGuest f g p n) (Some v) e h =
      record { slot = tt; mapped = λ k. (loaded-at l usable s.contents legal cpu known v (sym e)).1; part = tt }
  each (UnshareGuest vm g) (Some v) e h =
      record {
        slot = tt;
        mapped = λ k. live-alive vm (s.contents.guest v) (pass (Some v) (UnshareGuest vm g) h).has_vm;
        part = tt;
      }
  each (DonateGuest f g n) (Some v) e h =
      record { slot = tt; mapped = λ k. (loaded-at l usable s.contents legal cpu known v (sym e)).1; part = tt }
  each (GuestShareHost g) (Some v) e h =
      record { slot = tt; mapped = λ k. (loaded-at l usable s.contents legal cpu known v (sym e)).1; part = tt }
  each (GuestUnshareHost g) (Some v) e h =
      record { slot = tt; mapped = λ k. (loaded-at l usable s.contents legal cpu known v (sym e)).1; part = tt }
  each (GuestRelax g p) (Some v) e h =
      record { slot = tt; mapped = λ k. (loaded-at l usable s.contents legal cpu known v (sym e)).1; part = tt }
  each Install (Some v) e h =
      let some = (pass (Some v) Install h).allowed in
      let a = staged-at l usable s.contents legal cpu known booked v (sym e) in
      let fits = ticket-fits s.contents legal.slots cpu v booked a.1.0 a.1.1 a.1.2 a.1.3 in
      record {
        slot = tt;
        mapped = λ k. cc;
        part = record { vacant = fits.1; some = hand-count some; few = hand-most some; low = hand-low some };
      }
  each (Topup vm) (Some v) e h =
      let p = pass (Some v) (Topup vm) h in
      let t =
      and-both (is_some (s.contents.cpu cpu).hand)
      (nat_le
      (guest_table_count l (s.contents.guest v).tree + length (s.contents.guest v).free +
      (hand_of (s.contents.cpu cpu)).count) 512) p.allowed in
      record {
        slot = tt;
        mapped = λ k. cc;
        part =
            record {
              made = stands-alive vm (s.contents.guest v) p.has_vm;
              apart = hand-apart v t.0;
              few = at-most 512 _ t.1;
              low = hand-low t.0;
            };
      }
  each (ReclaimPage vm g) (Some v) e h =
      record {
        slot = tt;
        mapped = λ k. dying-alive vm (s.contents.guest v) (pass (Some v) (ReclaimPage vm g) h).has_vm;
        part = tt;
      }
  each (ReclaimPool vm) (Some v) e h = record { slot = tt; mapped = λ k. cc; part = tt }
  each FinishGuest (Some v) e h = record { slot = tt; mapped = λ k. cc; part = tt }
  each (GuestTranslate vm g) (Some v) e h = record { slot = tt; mapped = λ k. cc; part = tt }
  each MarkDying (Some v) e h =
      let a = staged-at l usable s.contents legal cpu known closing_vm v (sym e) in
      let fits = ticket-fits s.contents legal.slots cpu v closing_vm a.1.0 a.1.1 a.1.2 a.1.3 in
      record { slot = tt; mapped = λ k. cc; part = λ k. (let bad : live ≡ empty = sym fits.1 ∙ k in cc) }
  each (VmReserve kind vcpus) o e h =
      let ready =
      and-both (is_none (s.contents.cpu cpu).ticket) (is_some (vacant_slot s.contents.vms))
      (pass o (VmReserve kind vcpus) h).ready in
      let found =
      first-spec 0 64 (unwrap_or (vacant_slot s.contents.vms) 0)
      (λ u. stand_eq (s.contents.vms.slot u).stand vacant) (some-is (vacant_slot s.contents.vms) ready.1) in
      let low = found.1 in
      record { slot = omega arith; mapped = λ k. cc; part = tt }
  each VmOpen o e h = let t = has_stage-is installed (s.contents.cpu cpu) (pass o VmOpen h).has_vm in
      record { slot = ticket-low t.0 t.1; mapped = λ k. cc; part = tt }
  each (VcpuLoad vm i) o e h = let t = and-both (is_good_vm vm) (nat_lt i 8) (pass o (VcpuLoad vm i) h).valid in
      record { slot = (below 64 vm.slot t.0, below 8 i t.1); mapped = λ k. cc; part = tt }
  each VcpuPut o e h = record { slot = loaded-low (pass o VcpuPut h).has_vm; mapped = λ k. cc; part = tt }
  each (Teardown vm) o e h =
      record { slot = below 64 vm.slot (pass o (Teardown vm) h).valid; mapped = λ k. cc; part = tt }
  each VmRelease o e h =
      let t =
      released (has_stage booked (s.contents.cpu cpu)) (has_stage finished (s.contents.cpu cpu)) refl refl
      (pass o VmRelease h).has_vm in
      record { slot = (ticket-low t.0 t.1, ticket-few t.0 t.1); mapped = λ k. cc; part = tt }
  each (ShareHyp f) o e h = record { slot = tt; mapped = λ k. cc; part = tt }
  each (UnshareHyp f) o e h = record { slot = tt; mapped = λ k. cc; part = tt }
  each (DonateHyp f n) o e h = record { slot = tt; mapped = λ k. cc; part = tt }
  each (HypDonateHost f n) o e h = record { slot = tt; mapped = λ k. cc; part = tt }
  each (Fund f n) o e h = record { slot = tt; mapped = λ k. cc; part = tt }
  each Unfund o e h = record { slot = tt; mapped = λ k. cc; part = tt }
  each (HostAbort p) o e h = record { slot = tt; mapped = λ k. cc; part = tt }
  each (HostTranslate p) o e h = record { slot = tt; mapped = λ k. cc; part = tt }
  each (HypTranslate p) o e h = record { slot = tt; mapped = λ k. cc; part = tt }
  each (OwnerOf f) o e h = record { slot = tt; mapped = λ k. cc; part = tt }
  each step None e h = lacking (rule l cpu None step (x_at None step)) h

pub part_changes_fit : PartChangesFit
part_changes_fit l s cpu slot step h accepted legal bounded known named k =
    let t =
    told-ok (rule l cpu slot step (used_of (names step) slot cpu s.contents)) (lacks_slot (names step) slot) h k in
    subst (λ (c : Changes). PartsFit l c (used_of (names step) slot cpu s.contents).guest) t.1
    (each l accepted s legal bounded cpu known step slot named t.0)
