-- The parts that a call uses, and the source of its guest's slot.
use Rattle.std.specs.Prelude.{ℕ, Bool, true, false, ◌==◌, nat_lt, is_some, is_none, option_map, Option, Some, None, if◌then◌else◌}
use Rattle.reference_model.specs.declared.changes.Stage.{Stage}
use Rattle.reference_model.specs.declared.changes.Stage.TheVariants.{Booked as booked, Installed as installed, Closing as closing_vm, Dying as dying_vm, Finished as finished}
use Rattle.call_table.specs.declared.step.VmId.{VmId}
use Rattle.reference_model.specs.model.State.{Cpu}

-- the parts, which are taken one by one
pub data Part : Type 0 where
  vm_part : Part
  shared_part : Part
  guest_part : ℕ → Part

-- the parts that a step names; the slot of the Guest part is found separately
pub data Names : Type 0 where
  shared : Names
  shared_and_guest : Names
  guest : Names
  vms : Names
  vms_of : VmId → Names

-- the VM's slot is one of the 64
abbrev pub is_good_vm : VmId → Bool
is_good_vm vm = nat_lt vm.slot 64

-- the slot of a VmId, if it is below 64
abbrev pub slot_of : VmId → Option ℕ
slot_of vm = if is_good_vm vm then Some vm.slot else None

-- the slot of the vCPU that a CPU has loaded
abbrev pub loaded_slot : Cpu → Option ℕ
loaded_slot k = option_map (λ x. x.vm.slot) k.loaded

-- equality of stages, as a test
abbrev pub stage_eq : Stage → Stage → Bool
stage_eq booked booked = true
stage_eq installed installed = true
stage_eq closing_vm closing_vm = true
stage_eq dying_vm dying_vm = true
stage_eq finished finished = true
stage_eq a b = false

-- the CPU has a ticket of the stage
abbrev pub has_stage : Stage → Cpu → Bool
has_stage stage k = elim (k.ticket) [ Some t ↦ stage_eq t.stage stage | None ↦ false ]

-- the slot of the CPU's ticket of a stage
abbrev pub ticket_slot : Stage → Cpu → Option ℕ
ticket_slot stage k = if has_stage stage k then option_map (λ t. t.vm.slot) k.ticket else None

-- the step names a Guest part, and no slot was found
abbrev pub lacks_slot : Names → Option ℕ → Bool
lacks_slot shared_and_guest slot = is_none slot
lacks_slot guest slot = is_none slot
lacks_slot other slot = false

-- whether the VM part is used; a VmId of slot 64 or more uses none
abbrev pub uses_vms : Names → Bool
uses_vms vms = true
uses_vms (vms_of vm) = is_good_vm vm
uses_vms other = false

-- whether the Shared part is used; a step that lacks its Guest part uses none
abbrev pub uses_shared : Names → Option ℕ → Bool
uses_shared shared slot = true
uses_shared shared_and_guest slot = is_some slot
uses_shared other slot = false

-- whether the slot that was found is this one
abbrev pub is_slot : Option ℕ → ℕ → Bool
is_slot None v = false
is_slot (Some u) v = v == u

-- whether a part is used, by the parts that the step names and the slot that was found
abbrev pub is_used : Names → Option ℕ → Part → Bool
is_used n slot vm_part = uses_vms n
is_used n slot shared_part = uses_shared n slot
is_used n slot (guest_part v) = is_slot slot v
