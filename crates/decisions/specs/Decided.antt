-- The inputs of the decision of a call on a guest.
use Rattle.std.specs.Prelude.{◌≡◌, ℕ, true, false, Bool, not, ◌&&◌, ◌==◌, length, Option, Some, Result, MatchOption, if◌then◌else◌}
use Rattle.guest_component.specs.declared.Guest.{Guest}
use Rattle.guest_component.specs.View.{guest_of}
use Rattle.part_types.specs.declared.parts.CpuState.{CpuState}
use Rattle.part_types.specs.declared.parts.SharedPart.{SharedPart}
use Rattle.part_types.specs.View.{cpu_of, shared_of}
use Rattle.page_state.specs.EntryTests.{is_unmapped}
use Rattle.page_state.specs.Geometries.{pages_below}
use Rattle.page_state.specs.Layouts.{Layout}
use Rattle.page_state.specs.Search.{all_below}
use Rattle.reference_model.specs.declared.changes.Changes.{Changes}
use Rattle.reference_model.specs.declared.changes.Ticket.{Ticket}
use Rattle.reference_model.specs.model.Decides.{decides}
use Rattle.reference_model.specs.model.State.{Cpu, Guest as ReferenceGuest, Shared}
use Rattle.reference_model.specs.model.Used.{Used, guest_alone, with_guest}
use Rattle.call_table.specs.declared.reply.Refusal.{Refusal}
use Rattle.call_table.specs.declared.reply.Refusal.TheVariants.{Invalid, NoVm}
use Rattle.call_table.specs.declared.step.Step.{Step}

module _ {A : Type 0} where
  -- the parts of a call that uses the Shared part and a guest
  abbrev pub used_with : SharedPart A → Guest A → CpuState → Used
  used_with s g k = with_guest (shared_of s) (guest_of g) (cpu_of k)

  -- the result is the decision of a call on the Shared part and the guest of a slot, whichever CPU
  -- makes it
  abbrev pub IsDecidedByParts : Layout → ℕ → SharedPart A → Guest A → Step → Result Changes Refusal
      → Type 0
  IsDecidedByParts l slot s g step r =
      (id : ℕ) (k : Cpu)
      → r ≡ decides l id (Some slot) step (with_guest (shared_of s) (guest_of g) k)

  -- the result is the decision of a call on a guest alone, for any CPU and any slot of the guest
  abbrev pub IsDecidedByGuest : Layout → Guest A → Step → Result Changes Refusal → Type 0
  IsDecidedByGuest l g step r =
      (id slot : ℕ) (k : Cpu) → r ≡ decides l id (Some slot) step (guest_alone (guest_of g) k)

  -- the result is the decision of a call that reads a guest and its CPU's own state, whatever the
  -- Shared part is
  abbrev pub IsDecidedByHolder : Layout → Guest A → CpuState → Step → Result Changes Refusal
      → Type 0
  IsDecidedByHolder l g k step r =
      (id slot : ℕ) (s : Shared)
      → r ≡ decides l id (Some slot) step (with_guest s (guest_of g) (cpu_of k))

-- the result is the decision of a call that reads only its CPU's own state, whatever the parts are
abbrev pub IsDecidedByCpu : CpuState → Step → Result Changes Refusal → Type 0
IsDecidedByCpu k step r =
    (l : Layout) (id slot : ℕ) (s : Shared) (g : ReferenceGuest)
    → r ≡ decides l id (Some slot) step (with_guest s g (cpu_of k))

-- the refusal of a call on a guest if there is no such guest, by the test of its arguments
abbrev pub unloaded_why : Bool → Refusal
unloaded_why valid = if valid then NoVm else Invalid

-- the CPU's ticket if it passes a test, else None
abbrev pub IsTicketIf : Bool → CpuState → Option Ticket → Type 0
IsTicketIf passes k r = MatchOption r (passes ≡ false) (λ t. (passes ≡ true) × (k.ticket ≡ Some t))

-- a guest maps a page, or its pool has a frame
abbrev pub has_left : ℕ → ReferenceGuest → Bool
has_left depth g =
    not (all_below (pages_below depth) (λ p. is_unmapped (g.tree.map p)) && length g.free == 0)
