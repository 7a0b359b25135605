-- What the tries of a call tell of what a pass has seen.
use Rattle.std.proofs.Common.{◌≡◌, ◌⊎◌, ℕ, zero, suc, Bool, true, false, true≢false, List, [], ◌∷◌, ◌++◌, append_assoc, append-nil, map, All, refl, sym, ap, ◌∙◌, subst, ⊎_elim, inl, inr, arith}
use Rattle.std.specs.Prelude.{Option, Some, None, nat_lt}
use Rattle.std.proofs.lemmas.List.Elements.{All-cons, All-nil}
use Rattle.std.proofs.lemmas.Bool.{eqb-true}
use Rattle.call_table.specs.declared.reply.Call.{Call}
use Rattle.call_table.specs.declared.step.Step.{Step}
use Rattle.call_table.specs.declared.step.Step.TheVariants.{ShareHyp, UnshareHyp, DonateHyp, HypDonateHost, HostAbort, HostTranslate, HypTranslate, OwnerOf, Fund, Unfund, ShareGuest, UnshareGuest, DonateGuest, GuestShareHost, GuestUnshareHost, Install, Topup, ReclaimPage, ReclaimPool, FinishGuest, GuestRelax, GuestTranslate, MarkDying, VmReserve, VmOpen, VcpuLoad, VcpuPut, Teardown, VmRelease}
use Rattle.call_table.specs.declared.step.VmId.{VmId}
use Rattle.reference_model.specs.model.Parts.{guest, is_used, shared, shared_and_guest, vms, vms_of}
use Rattle.reference_model.specs.model.Rules.{guest_slot, names}
use Rattle.reference_model.specs.model.State.{Cpu}
use Rattle.part_types.specs.View.{cpu_of}
use Rattle.hypercalls.specs.Uses.{or_vms, parts_of}
use Rattle.hypercalls.specs.declared.used_parts.UsedParts.TheVariants.{Nothing}
use Rattle.part_table.specs.Answered.{used_by}
use Rattle.part_table.specs.Parts.{in_order, part_of, uses}
use Rattle.part_table.specs.Known.{Known, StartsWith, seen_at, Try}
use Rattle.part_table.specs.Tried.{AllTaken, FoundRoom}
use Rattle.cpu_threads.specs.Laws.{SeenGrows, TakesEach}

abbrev IsIn : ℕ → List ℕ → Type 0
IsIn k [] = ⊥
IsIn k (j ∷ js) = (k ≡ j) ⊎ IsIn k js

-- a part that is used is one of those that are taken
shared_listed : (j : ℕ) → is_used shared None (part_of j) ≡ true → IsIn j (in_order (parts_of shared None))
shared_listed zero e = absurd (true≢false (sym e))
shared_listed (suc zero) e = inl refl
shared_listed (suc (suc v)) e = absurd (true≢false (sym e))

both_listed : (slot : Option ℕ) (j : ℕ)
    → is_used shared_and_guest slot (part_of j) ≡ true
    → IsIn j (in_order (parts_of shared_and_guest slot))
both_listed slot zero e = absurd (true≢false (sym e))
both_listed None (suc zero) e = absurd (true≢false (sym e))
both_listed (Some u) (suc zero) e = inl refl
both_listed None (suc (suc v)) e = absurd (true≢false (sym e))
both_listed (Some u) (suc (suc v)) e = let same : v ≡ u = eqb-true v u e in inr (inl (omega (arith, same)))

guest_listed : (slot : Option ℕ) (j : ℕ)
    → is_used guest slot (part_of j) ≡ true
    → IsIn j (in_order (parts_of guest slot))
guest_listed slot zero e = absurd (true≢false (sym e))
guest_listed slot (suc zero) e = absurd (true≢false (sym e))
guest_listed None (suc (suc v)) e = absurd (true≢false (sym e))
guest_listed (Some u) (suc (suc v)) e = let same : v ≡ u = eqb-true v u e in inl (omega (arith, same))

vms_listed : (j : ℕ) → is_used vms None (part_of j) ≡ true → IsIn j (in_order (parts_of vms None))
vms_listed zero e = inl refl
vms_listed (suc zero) e = absurd (true≢false (sym e))
vms_listed (suc (suc v)) e = absurd (true≢false (sym e))

or_vms_listed : (b : Bool) → b ≡ true → IsIn 0 (in_order (or_vms b Nothing))
or_vms_listed true e = inl refl
or_vms_listed false e = absurd (true≢false (sym e))

vms_of_listed : (vm : VmId) (j : ℕ)
    → is_used (vms_of vm) None (part_of j) ≡ true
    → IsIn j (in_order (parts_of (vms_of vm) None))
vms_of_listed vm zero e = or_vms_listed (nat_lt vm.slot 64) e
vms_of_listed vm (suc zero) e = absurd (true≢false (sym e))
vms_of_listed vm (suc (suc v)) e = absurd (true≢false (sym e))

listed : (step : Step) (k : Cpu) (j : ℕ)
    → is_used (names step) (guest_slot k step) (part_of j) ≡ true
    → IsIn j (in_order (parts_of (names step) (guest_slot k step)))
listed (ShareHyp f) k j = shared_listed j
listed (UnshareHyp f) k j = shared_listed j
listed (DonateHyp f n) k j = shared_listed j
listed (HypDonateHost f n) k j = shared_listed j
listed (HostAbort p) k j = shared_listed j
listed (HostTranslate p) k j = shared_listed j
listed (HypTranslate p) k j = shared_listed j
listed (OwnerOf f) k j = shared_listed j
listed (Fund f n) k j = shared_listed j
listed Unfund k j = shared_listed j
listed (ShareGuest f g p n) k j = both_listed (guest_slot k (ShareGuest f g p n)) j
listed (UnshareGuest vm g) k j = both_listed (guest_slot k (UnshareGuest vm g)) j
listed (DonateGuest f g n) k j = both_listed (guest_slot k (DonateGuest f g n)) j
listed (GuestShareHost g) k j = both_listed (guest_slot k (GuestShareHost g)) j
listed (GuestUnshareHost g) k j = both_listed (guest_slot k (GuestUnshareHost g)) j
listed Install k j = both_listed (guest_slot k Install) j
listed (Topup vm) k j = both_listed (guest_slot k (Topup vm)) j
listed (ReclaimPage vm g) k j = both_listed (guest_slot k (ReclaimPage vm g)) j
listed (ReclaimPool vm) k j = both_listed (guest_slot k (ReclaimPool vm)) j
listed FinishGuest k j = both_listed (guest_slot k FinishGuest) j
listed (GuestRelax g p) k j = guest_listed (guest_slot k (GuestRelax g p)) j
listed (GuestTranslate vm g) k j = guest_listed (guest_slot k (GuestTranslate vm g)) j
listed MarkDying k j = guest_listed (guest_slot k MarkDying) j
listed (VmReserve kind n) k j = vms_listed j
listed VmOpen k j = vms_listed j
listed (VcpuLoad vm i) k j = vms_of_listed vm j
listed VcpuPut k j = vms_listed j
listed (Teardown vm) k j = vms_of_listed vm j
listed VmRelease k j = vms_listed j

module _ (c : Call) (v w : Known) where
  numbers : (ks : List ℕ) (ts : List Try) → AllTaken c v w ks ts → map (λ t. t.0) ts ≡ ks
  numbers [] ts e = ap (map (λ (t : Try). t.0)) e
  numbers (k ∷ ks) ts a = ap (map (λ (t : Try). t.0)) a.2 ∙ ap (λ l. k ∷ l) (numbers ks a.1 a.6)

  rooms : (ks : List ℕ) (ts : List Try) → AllTaken c v w ks ts → All (λ t. FoundRoom t.1) ts
  rooms [] ts e = subst (All (λ (t : Try). FoundRoom t.1)) (sym e) (All-nil (λ (t : Try). FoundRoom t.1))
  rooms (k ∷ ks) ts a =
      subst (All (λ (t : Try). FoundRoom t.1)) (sym a.2)
      (All-cons (λ (t : Try). FoundRoom t.1) (k, Some a.0) a.1 (a.0, refl, a.3) (rooms ks a.1 a.6))

  abbrev Grows : ℕ → Type 0
  Grows k =
      StartsWith (seen_at w.seen k) (seen_at v.seen k) × ((before : List Call) × (seen_at w.seen k ≡ before ++ c ∷ []))

  grows : (ks : List ℕ) (ts : List Try) → AllTaken c v w ks ts → (k : ℕ) → IsIn k ks → Grows k
  grows [] ts a k e = absurd e
  grows (j ∷ js) ts a k e = ⊎_elim
      (λ is. subst Grows (sym is) (
        (
          a.4.0 ++ c ∷ [],
          a.5
              ∙ (ap (λ (l : List Call). l ++ c ∷ []) a.4.1 ∙ append_assoc (seen_at v.seen j) a.4.0 (c ∷ [])),
        ),
        (a.0.calls, a.5),
      ))
      (λ (o : IsIn k js). grows js a.1 a.6 k o)
      e

abbrev Told : Known → Known → Call → ℕ → Type 0
Told v w c k =
    StartsWith (seen_at w.seen k) (seen_at v.seen k)
    × (uses c k ≡ true → (before : List Call) × (seen_at w.seen k ≡ before ++ c ∷ []))

pub seen_grows : SeenGrows
seen_grows step reply v w s k = by (uses s.call k) refl
  where
    used : uses s.call k ≡ true → IsIn k (used_by step v)
    used e =
        listed step (cpu_of v.own) k
        (subst (λ (z : Step × Option ℕ). is_used (names z.0) z.1 (part_of k) ≡ true)
        (λ i. ((s.call_is i).step, (s.call_is i).slot)) e)

    by : (b : Bool) → uses s.call k ≡ b → Told v w s.call k
    by true e = let g = grows s.call v w (used_by step v) s.tries s.taken k (used e) in (g.0, λ _. g.1)
    by false e = (([], s.others k e ∙ sym (append-nil (seen_at v.seen k))), λ t. absurd (true≢false (sym t ∙ e)))

pub takes_each : TakesEach
takes_each step reply v w s =
    (numbers s.call v w (used_by step v) s.tries s.taken, rooms s.call v w (used_by step v) s.tries s.taken)
