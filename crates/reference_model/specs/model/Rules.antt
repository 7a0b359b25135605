-- The rule of each step: the parts that it names, the source of its guest's slot, whether it can
-- run out of memory, its tests and its changes.
use Rattle.std.specs.Prelude.{ℕ, Bool, true, false, Option, Some, None, List, codes}
use Rattle.call_table.specs.declared.reply.Call.{Call}
use Rattle.call_table.specs.declared.step.Step.{Step}
use Rattle.call_table.specs.declared.step.Step.TheVariants.{ShareHyp, UnshareHyp, DonateHyp, HypDonateHost, HostAbort, HostTranslate, HypTranslate, OwnerOf, Fund, Unfund, ShareGuest, UnshareGuest, DonateGuest, GuestShareHost, GuestUnshareHost, Install, Topup, ReclaimPage, ReclaimPool, FinishGuest, GuestRelax, GuestTranslate, MarkDying, VmReserve, VmOpen, VcpuLoad, VcpuPut, Teardown, VmRelease}
use Rattle.page_state.specs.Layouts.{Layout}
use Rattle.reference_model.specs.model.Used.{Used}
use Rattle.reference_model.specs.model.Rule.{Reads, reads, Rule}
use Rattle.reference_model.specs.model.SharedRules.{share_hyp, unshare_hyp, donate_hyp, hyp_donate_host, host_abort, host_translate, hyp_translate, owner_of, fund, unfund}
use Rattle.reference_model.specs.model.GuestRules.{share_guest, unshare_guest, donate_guest, guest_share_host, guest_unshare_host, install, topup, reclaim_page, reclaim_pool, finish_guest, guest_relax, guest_translate, mark_dying}
use Rattle.reference_model.specs.model.VmRules.{vm_reserve, vm_open, vcpu_load, vcpu_put, teardown, vm_release}
use Rattle.reference_model.specs.model.State.{Cpu}
use Rattle.reference_model.specs.model.Parts.{Part, Names, shared, shared_and_guest, guest, vms, vms_of, slot_of, loaded_slot, ticket_slot, is_used}
use Rattle.reference_model.specs.declared.changes.Stage.{Stage}
use Rattle.call_table.specs.declared.step.VmId.{VmId}
use Rattle.reference_model.specs.declared.changes.Stage.TheVariants.{Booked as booked, Closing as closing_vm, Dying as dying_vm}

-- the model's data on a step: the parts that it names; the slot of its Guest part, by its VmId or
-- by the vCPU or ticket of its CPU; whether it can be refused for lack of memory; its rule; and a
-- text for the refusal if no slot is found, if the rule has none
pub record StepRule : Type 0 where
  pub parts : Names
  pub slot : Cpu → Option ℕ
  pub may_grow : Bool
  pub rule : Reads → Rule
  pub lacking : Option (List ℕ)

-- on the Shared part alone
abbrev pub on_shared : (Reads → Rule) → StepRule
on_shared r = record { parts = shared; slot = λ k. None; may_grow = true; rule = r; lacking = None }

-- on the Shared part alone, which it only reads
abbrev pub looks_at_shared : (Reads → Rule) → StepRule
looks_at_shared r = record (on_shared r) { may_grow = false }

-- on the Shared part and the guest of the vCPU that the CPU has loaded
abbrev pub with_loaded : (Reads → Rule) → StepRule
with_loaded r =
    record {
      parts = shared_and_guest;
      slot = loaded_slot;
      may_grow = true;
      rule = r;
      lacking = Some (codes "the CPU has no vCPU loaded");
    }

-- on the Shared part and the guest of a VM
abbrev pub with_vm : VmId → (Reads → Rule) → StepRule
with_vm vm r = record (with_loaded r) { slot = λ k. slot_of vm; lacking = None }

-- the CPU has no ticket of the stage, in words
abbrev pub no_ticket_of : Stage → Option (List ℕ)
no_ticket_of booked = Some (codes "the CPU has no Booked ticket")
no_ticket_of closing_vm = Some (codes "the CPU has no Closing ticket")
no_ticket_of dying_vm = Some (codes "the CPU has no Dying ticket")
no_ticket_of other = None

-- on the Shared part and the guest of the CPU's ticket, which has the stage
abbrev pub with_ticket : Stage → (Reads → Rule) → StepRule
with_ticket stage r =
    record (with_loaded r) { slot = ticket_slot stage; lacking = no_ticket_of stage }

-- the same step on its guest alone
abbrev pub alone : StepRule → StepRule
alone s = record s { parts = guest }

-- the same step, which can't be refused for lack of memory
abbrev pub grows_none : StepRule → StepRule
grows_none s = record s { may_grow = false }

-- on the VM part alone
abbrev pub on_vms : Names → (Reads → Rule) → StepRule
on_vms names r =
    record { parts = names; slot = λ k. None; may_grow = false; rule = r; lacking = None }

-- each step
abbrev pub step_rule : Step → StepRule
step_rule (ShareHyp f) = on_shared (share_hyp f)
step_rule (UnshareHyp f) = on_shared (unshare_hyp f)
step_rule (DonateHyp f n) = on_shared (donate_hyp f n)
step_rule (HypDonateHost f n) = on_shared (hyp_donate_host f n)
step_rule (HostAbort p) = on_shared (host_abort p)
step_rule (HostTranslate p) = looks_at_shared (host_translate p)
step_rule (HypTranslate p) = looks_at_shared (hyp_translate p)
step_rule (OwnerOf f) = looks_at_shared (owner_of f)
step_rule (Fund f n) = on_shared (fund f n)
step_rule Unfund = on_shared unfund
step_rule (ShareGuest f g p n) = with_loaded (share_guest f g p n)
step_rule (UnshareGuest vm g) = with_vm vm (unshare_guest vm g)
step_rule (DonateGuest f g n) = with_loaded (donate_guest f g n)
step_rule (GuestShareHost g) = with_loaded (guest_share_host g)
step_rule (GuestUnshareHost g) = with_loaded (guest_unshare_host g)
step_rule Install = with_ticket booked install
step_rule (Topup vm) = with_vm vm (topup vm)
step_rule (ReclaimPage vm g) = with_vm vm (reclaim_page vm g)
step_rule (ReclaimPool vm) = with_vm vm (reclaim_pool vm)
step_rule FinishGuest = with_ticket dying_vm finish_guest
step_rule (GuestRelax g p) = alone (with_loaded (guest_relax g p))
step_rule (GuestTranslate vm g) = grows_none (alone (with_vm vm (guest_translate vm g)))
step_rule MarkDying = grows_none (alone (with_ticket closing_vm mark_dying))
step_rule (VmReserve kind vcpus) = on_vms vms (vm_reserve kind vcpus)
step_rule VmOpen = on_vms vms vm_open
step_rule (VcpuLoad vm i) = on_vms (vms_of vm) (vcpu_load vm i)
step_rule VcpuPut = on_vms vms vcpu_put
step_rule (Teardown vm) = on_vms (vms_of vm) (teardown vm)
step_rule VmRelease = on_vms vms vm_release

-- the parts that a step names
abbrev pub names : Step → Names
names step = (step_rule step).parts

-- the slot of the Guest part that a step names; None if it names none or none is found
abbrev pub guest_slot : Cpu → Step → Option ℕ
guest_slot k step = (step_rule step).slot k

-- the steps that can be refused for lack of memory
abbrev pub may_grow : Step → Bool
may_grow step = (step_rule step).may_grow

-- the rule of a step of a CPU, from the slot of its guest and the parts that it uses
unfoldable pub rule : Layout → ℕ → Option ℕ → Step → Used → Rule
rule l cpu slot step x = (step_rule step).rule (reads l cpu slot x)

-- whether a call used the part
abbrev pub call_uses : Part → Call → Bool
call_uses p c = is_used (names c.step) c.slot p
