-- The slot of a step's guest is one of the 64, and each log that the step needs has room.
use Rattle.std.proofs.Common.{◌≡◌, ℕ, zero, suc, ◌<◌, List, [], ◌∷◌, length, map, get_or, refl, ap, arith}
use Rattle.std.specs.Prelude.{Bool, true, false, ◌==◌, ◌||◌, ◌&&◌, is_some, option_map, All, Option, Some, None, if◌then◌else◌}
use Rattle.std.proofs.lemmas.Bool.Decides.{nat_tests}
use Rattle.std.proofs.lemmas.List.Elements.{All-head, All-tail}
use Rattle.call_table.specs.declared.step.Step.{Step}
use Rattle.call_table.specs.declared.step.Step.TheVariants.{ShareGuest, UnshareGuest, DonateGuest, GuestShareHost, GuestUnshareHost, Install, Topup, ReclaimPage, ReclaimPool, FinishGuest, GuestRelax, GuestTranslate, MarkDying}
use Rattle.call_table.specs.declared.step.VmId.{VmId}
use Rattle.reference_model.specs.declared.changes.Loaded.{Loaded}
use Rattle.reference_model.specs.declared.changes.Stage.{Stage}
use Rattle.reference_model.specs.declared.changes.Stage.TheVariants.{Booked as booked, Closing as closing_vm, Dying as dying_vm}
use Rattle.reference_model.specs.declared.changes.Ticket.{Ticket}
use Rattle.reference_model.specs.model.Parts.{Names, has_stage, is_good_vm, slot_of, ticket_slot, uses_shared, uses_vms}
use Rattle.reference_model.specs.model.Rules.{guest_slot}
use Rattle.reference_model.specs.model.State.{Cpu, Rooms, no_cpu}
use Rattle.reference_model.specs.model.Step.{is_full}
use Rattle.reference_model.specs.model.Used.{rooms_of, room_at}
use Rattle.ghost_spec.specs.declared.cpu.GhostCpu.{GhostCpu}
use Rattle.ghost_spec.specs.Kept.{HasLowLoad, HasLowTicket, IsKeptCpu, IsLowSlot}
use Rattle.ghost_spec.specs.Views.{cpu_in}
use Rattle.free_judge.specs.Asked.{IsOpen}

low-if : (b : Bool) (v : ℕ) → (b ≡ true → v < 64) → IsLowSlot (if b then Some v else None)
low-if true v h = h refl
low-if false v h = tt

low-vm : (vm : VmId) → IsLowSlot (slot_of vm)
low-vm vm = low-if (is_good_vm vm) vm.slot (λ e. grind (arith, nat_tests))

low-load : (o : Option Loaded) → HasLowLoad o → IsLowSlot (option_map (λ x. x.vm.slot) o)
low-load None h = tt
low-load (Some x) h = h

low-held : (o : Option Ticket) → HasLowTicket o → IsLowSlot (option_map (λ t. t.vm.slot) o)
low-held None h = tt
low-held (Some t) h = h

low-else : (b : Bool) (o : Option ℕ) → IsLowSlot o → IsLowSlot (if b then o else None)
low-else true o h = h
low-else false o h = tt

module _ (k : Cpu) (load : HasLowLoad k.loaded) (ticket : HasLowTicket k.ticket) where
  low-ticket : (stage : Stage) → IsLowSlot (ticket_slot stage k)
  low-ticket stage = low-else (has_stage stage k) (option_map (λ t. t.vm.slot) k.ticket) (low-held k.ticket ticket)

  pub low-slot : (step : Step) → IsLowSlot (guest_slot k step)
  low-slot (ShareGuest f g r n) = low-load k.loaded load
  low-slot (UnshareGuest vm g) = low-vm vm
  low-slot (DonateGuest f g n) = low-load k.loaded load
  low-slot (GuestShareHost g) = low-load k.loaded load
  low-slot (GuestUnshareHost g) = low-load k.loaded load
  low-slot Install = low-ticket booked
  low-slot (Topup vm) = low-vm vm
  low-slot (ReclaimPage vm g) = low-vm vm
  low-slot (ReclaimPool vm) = low-vm vm
  low-slot FinishGuest = low-ticket dying_vm
  low-slot (GuestRelax g p) = low-load k.loaded load
  low-slot (GuestTranslate vm g) = low-vm vm
  low-slot MarkDying = low-ticket closing_vm
  low-slot step = tt

pub low-cpu : (ks : List GhostCpu) (c : ℕ)
    → All IsKeptCpu ks
    → HasLowLoad (get_or (map cpu_in ks) c no_cpu).loaded × HasLowTicket (get_or (map cpu_in ks) c no_cpu).ticket
low-cpu [] c h = (tt, tt)
low-cpu (k ∷ ks) zero h = let kept = All-head IsKeptCpu k ks h in (kept.loaded, kept.ticket)
low-cpu (k ∷ ks) (suc c) h = low-cpu ks c (All-tail IsKeptCpu k ks h)

-- rooms

some-room : (b : Bool) (n : ℕ) → n ≡ 1 → (b && (if b then n else 0) == 0) ≡ false
some-room true n e = ap (λ (m : ℕ). m == 0) e
some-room false n e = refl

guest-room : (slot : Option ℕ) (rooms : ℕ → ℕ)
    → IsLowSlot slot
    → ((v : ℕ) → v < 64 → rooms v ≡ 1)
    → (is_some slot && room_at rooms slot == 0) ≡ false
guest-room None rooms low h = refl
guest-room (Some v) rooms low h = ap (λ (m : ℕ). m == 0) (h v low)

four : (a b c d : Bool) → a ≡ false → b ≡ false → c ≡ false → d ≡ false → (a || b || c || d) ≡ false
four false false false d p q r s = s
four false false true d p q r s = cc
four false true c d p q r s = cc
four true b c d p q r s = cc

pub has-room : (n : Names) (slot : Option ℕ) (cpu cpus : ℕ) (r : Rooms)
    → cpu < cpus
    → IsLowSlot slot
    → IsOpen cpus r
    → is_full n slot (rooms_of n slot cpu r) ≡ false
unfolding is_full rooms_of
has-room n slot cpu cpus r less low rooms = four _ _ _ _
    (ap (λ (m : ℕ). m == 0) (rooms.cpu cpu less))
    (some-room (uses_vms n) r.vms rooms.vms)
    (some-room (uses_shared n slot) r.shared rooms.shared)
    (guest-room slot r.guest low rooms.guest)

pub each-one : (xs : List ℕ) (log v n : ℕ) → length xs ≡ n → All (λ m. m ≡ 1) xs → v < n → get_or xs v log ≡ 1
each-one xs log v n e all less = go xs v all (omega arith)
  where
    go : (ys : List ℕ) (u : ℕ) → All (λ m. m ≡ 1) ys → u < length ys → get_or ys u log ≡ 1
    go [] u h k = absurd (omega arith)
    go (y ∷ ys) zero h k = All-head (λ m. m ≡ 1) y ys h
    go (y ∷ ys) (suc u) h k = go ys u (All-tail (λ m. m ≡ 1) y ys h) (omega arith)
