-- The condition of the frame that a step names, in the state before it (profile).
use Rattle.std.specs.Prelude.{ℕ, ◌-◌, ◌==◌, Bool, Option, Some, None, is_some, if◌then◌else◌}
use Rattle.descriptor.specs.declared.State.TheVariants.{Owned, SharedOwned, SharedBorrowed}
use Rattle.call_table.specs.declared.step.Step.{Step}
use Rattle.call_table.specs.declared.step.Step.TheVariants as steps
use Rattle.call_table.specs.declared.step.VmId.{VmId}
use Rattle.page_state.specs.declared.entry.Entry.{Entry}
use Rattle.page_state.specs.declared.entry.Entry.TheVariants.{Leaf}
use Rattle.page_state.specs.declared.row.Lent.{Lent}
use Rattle.page_state.specs.declared.row.Row.{Row}
use Rattle.page_state.specs.EntryTests.{is_unmapped}
use Rattle.page_state.specs.Regions.{has_memory, region_of}
use Rattle.reference_model.specs.declared.changes.Loaded.{Loaded}
use Rattle.reference_model.specs.model.GuestRules.{phase_eq}
use Rattle.reference_model.specs.model.State.{dying}
use Rattle.trace_cover.specs.declared.condition.Condition.{Condition}
use Rattle.trace_cover.specs.declared.condition.Condition.TheVariants.{Device, Untouched, Mapped, WithHyp}
use Rattle.trace_cover.specs.Conditions.{by_state, by_usage}
use Rattle.trace_text.specs.Worlds.{Machine}

-- the guest in a slot is Dying
abbrev pub is_dying : Machine → ℕ → Bool
is_dying m slot = phase_eq (m.state.contents.guest slot).phase dying

-- of a frame of the host that is lent to nobody, by the host's entry of it
abbrev pub by_entry : Entry → Condition
by_entry e = if is_unmapped e then Untouched else Mapped

-- of a frame of the host that is lent, by the owner's number of the borrower
abbrev pub by_borrower : Machine → ℕ → Condition
by_borrower m owner =
    if owner == 1 then WithHyp else by_state (is_dying m (owner - 2)) SharedBorrowed

-- of a frame of the host, by whom it is lent to
abbrev pub of_host : Machine → ℕ → Option Lent → Condition
of_host m frame None = by_entry (m.state.contents.shared.host.map frame)
of_host m frame (Some lent) = by_borrower m lent.owner.0

-- of a frame of a guest, by whether it is lent
abbrev pub of_guest : Bool → Option Lent → Condition
of_guest ends None = by_state ends Owned
of_guest ends (Some lent) = by_state ends SharedOwned

-- of a memory frame, by its owner row: owner 0 is the host, 1 the hypervisor, 2 + v the guest in
-- slot v
abbrev pub by_row : Machine → ℕ → Row → Condition
by_row m frame row =
    if row.owner.0 == 0 then of_host m frame row.lent
    else (if row.owner.0 == 1 then by_usage row.usage
    else of_guest (is_dying m (row.owner.0 - 2)) row.lent)

-- of a page: the condition of a memory frame by its owner row, or of a device's page. None outside
-- of all regions
abbrev pub frame_condition : Machine → ℕ → Option Condition
frame_condition m frame =
    if has_memory m.layout.memory frame
    then Some (by_row m frame (m.state.contents.shared.row frame))
    else (if is_some (region_of m.layout.memory frame) then Some Device
    else None)

-- of the frame that a guest's entry maps
abbrev pub leaf_condition : Bool → Entry → Option Condition
leaf_condition ends (Leaf frame prot kind state) = Some (by_state ends state)
leaf_condition ends other = None

-- of the frame that the guest in a slot maps at a page
abbrev pub page_condition : Machine → ℕ → ℕ → Option Condition
page_condition m slot page =
    leaf_condition (is_dying m slot) ((m.state.contents.guest slot).tree.map page)

-- of the page of a VM's guest, if the guest has the generation of the VM's name
abbrev pub named_condition : Machine → VmId → ℕ → Option Condition
named_condition m vm page =
    if (m.state.contents.guest vm.slot).generation == vm.generation
    then page_condition m vm.slot page
    else None

-- of that of the vCPU which a CPU has loaded
abbrev pub loaded_condition : Machine → Option Loaded → ℕ → Option Condition
loaded_condition m None page = None
loaded_condition m (Some loaded) page = page_condition m loaded.vm.slot page

-- of the frame that a step of a CPU names, or of the one at the guest's page that it names; of a
-- range the first. The other steps name none, or only look
abbrev pub condition_at : Machine → ℕ → Step → Option Condition
condition_at m cpu (steps.ShareHyp frame) = frame_condition m frame
condition_at m cpu (steps.UnshareHyp frame) = frame_condition m frame
condition_at m cpu (steps.DonateHyp frame count) = frame_condition m frame
condition_at m cpu (steps.HypDonateHost frame count) = frame_condition m frame
condition_at m cpu (steps.HostAbort page) = frame_condition m page
condition_at m cpu (steps.Fund frame count) = frame_condition m frame
condition_at m cpu (steps.ShareGuest frame page rights count) = frame_condition m frame
condition_at m cpu (steps.DonateGuest frame page count) = frame_condition m frame
condition_at m cpu (steps.UnshareGuest vm page) = named_condition m vm page
condition_at m cpu (steps.ReclaimPage vm page) = named_condition m vm page
condition_at m cpu (steps.GuestShareHost page) =
    loaded_condition m (m.state.contents.cpu cpu).loaded page
condition_at m cpu (steps.GuestUnshareHost page) =
    loaded_condition m (m.state.contents.cpu cpu).loaded page
condition_at m cpu (steps.GuestRelax page rights) =
    loaded_condition m (m.state.contents.cpu cpu).loaded page
condition_at m cpu other = None
