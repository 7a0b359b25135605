-- The call rules of the steps on the VM part.
use Rattle.std.specs.Prelude.{ℕ, Bool, true, false, not, ◌&&◌, ◌||◌, ◌==◌, nat_le, nat_lt, is_some, is_none, unwrap_or, Option, Some, None, codes}
use Rattle.reference_model.specs.declared.changes.Loaded.{Loaded}
use Rattle.reference_model.specs.declared.changes.Stage.TheVariants.{Booked as booked, Installed as installed, Closing as closing_vm, Finished as finished}
use Rattle.call_table.specs.declared.step.VmId.{VmId}
use Rattle.call_table.specs.declared.step.VmKind.{VmKind}
use Rattle.call_table.specs.declared.reply.Value.TheVariants.{Vm}
use Rattle.page_state.specs.Search.{all_below, first_below}
use Rattle.reference_model.specs.model.State.{Stand, vacant, reserved, opened, closing, Slot, Vms, Cpu}
use Rattle.reference_model.specs.declared.changes.Update.TheVariants.{Becomes}
use Rattle.reference_model.specs.declared.changes.SlotChange.TheVariants.{Reserve, Open, Close, Release, Load, Unload}
use Rattle.reference_model.specs.declared.changes.CpuChange.{CpuChange}
use Rattle.reference_model.specs.model.Changes.{same_cpu, no_changes}
use Rattle.reference_model.specs.model.Parts.{has_stage, is_good_vm}
use Rattle.reference_model.specs.model.Used.{Used}
use Rattle.reference_model.specs.model.Rule.{Reads, Test, ◌otherwise◌, Rule, fine}
use Rattle.reference_model.specs.model.GuestRules.{good_vm, ticket_vm, ticket_becomes}

-- equality of slots' stages, as a test
abbrev pub stand_eq : Stand → Stand → Bool
stand_eq vacant vacant = true
stand_eq reserved reserved = true
stand_eq opened opened = true
stand_eq closing closing = true
stand_eq p q = false

-- the slot is Open with the generation of the name
abbrev pub is_open : VmId → Slot → Bool
is_open vm x = stand_eq x.stand opened && x.generation == vm.generation

-- a vCPU of the slot is loaded
abbrev pub is_any_loaded : Slot → Bool
is_any_loaded x = not (all_below 8 (λ i. is_none (x.loaded i)))

-- the vCPU that a CPU has loaded, or a vCPU of no VM if it has none
abbrev pub load_of : Cpu → Loaded
load_of k = unwrap_or k.loaded (record { vm = record { slot = 0; generation = 0 }; vcpu = 0 })

-- the slot that a reservation gets: the lowest Empty one
abbrev pub vacant_slot : Vms → Option ℕ
vacant_slot x = first_below 64 (λ u. stand_eq (x.slot u).stand vacant)

-- the number of that slot
abbrev pub next_slot : Used → ℕ
next_slot x = unwrap_or (vacant_slot x.vms) 0

-- the name of the VM that it becomes
abbrev pub next_name : Used → VmId
next_name x = record { slot = next_slot x; generation = (x.vms.slot (next_slot x)).generation }

-- the CPU gives its ticket up
abbrev pub no_ticket : CpuChange
no_ticket = record same_cpu { ticket = Becomes None }

-- the vCPU that the CPU has loaded becomes this
abbrev pub load_becomes : Option Loaded → CpuChange
load_becomes loaded = record same_cpu { loaded = Becomes loaded }

-- the name's VM is Open
abbrev pub open_slot : VmId → Slot → Test
open_slot vm slot = is_open vm slot otherwise codes "the VM isn't open"

-- a slot is reserved
abbrev pub vm_reserve : VmKind → ℕ → Reads → Rule
vm_reserve kind vcpus x = record fine {
  valid = nat_le 1 vcpus && nat_le vcpus 8 otherwise codes "a VM has 1 to 8 vCPUs";
  ready = is_none x.used.cpu.ticket && is_some (vacant_slot x.used.vms)
      otherwise codes "the CPU has a ticket, or no slot is Empty";
  changes =
      record no_changes {
        slot = Reserve (next_slot x.used) kind vcpus;
        cpu = ticket_becomes (next_name x.used) kind booked;
        value = Vm (next_name x.used);
      };
}

-- an installed VM opens
abbrev pub vm_open : Reads → Rule
vm_open x = record fine {
  has_vm = has_stage installed x.used.cpu otherwise codes "the CPU has no Installed ticket";
  changes =
      record no_changes {
        slot = Open (ticket_vm x.used.cpu).slot;
        cpu = no_ticket;
        value = Vm (ticket_vm x.used.cpu);
      };
}

-- the CPU loads a vCPU
abbrev pub vcpu_load : VmId → ℕ → Reads → Rule
vcpu_load vm i x = let slot = x.used.vms.slot vm.slot in record fine {
  valid = is_good_vm vm && nat_lt i 8 otherwise codes "the slot is over 63, or the vCPU is over 7";
  has_vm = open_slot vm slot;
  ready = is_none x.used.cpu.loaded && is_none (slot.loaded i)
      otherwise codes "the CPU has a vCPU loaded, or another CPU has this one";
  allowed = nat_lt i slot.vcpus otherwise codes "the VM has no vCPU of that number";
  changes =
      record no_changes
      { slot = Load vm.slot i x.id; cpu = load_becomes (Some (record { vm = vm; vcpu = i })) };
}

-- the CPU puts its vCPU back
abbrev pub vcpu_put : Reads → Rule
vcpu_put x = record fine {
  has_vm = is_some x.used.cpu.loaded otherwise codes "the CPU has no vCPU loaded";
  changes =
      record no_changes {
        slot = Unload (load_of x.used.cpu).vm.slot (load_of x.used.cpu).vcpu;
        cpu = load_becomes None;
      };
}

-- an Open VM closes
abbrev pub teardown : VmId → Reads → Rule
teardown vm x = let slot = x.used.vms.slot vm.slot in record fine {
  valid = good_vm vm;
  has_vm = open_slot vm slot;
  ready = is_none x.used.cpu.ticket && not (is_any_loaded slot)
      otherwise codes "the CPU has a ticket, or a vCPU of the VM is loaded";
  changes =
      record no_changes { slot = Close vm.slot; cpu = ticket_becomes vm slot.kind closing_vm };
}

-- the slot of a ticket becomes Empty
abbrev pub vm_release : Reads → Rule
vm_release x = record fine {
  has_vm = has_stage booked x.used.cpu || has_stage finished x.used.cpu
      otherwise codes "the CPU has no Booked and no Finished ticket";
  changes = record no_changes { slot = Release (ticket_vm x.used.cpu); cpu = no_ticket };
}
