-- A step on parts that are given or not, by options of references.
use Rattle.std.proofs.Common.{inl, inr}
use Rattle.std.specs.Prelude.{◌≡◌, Bool, true, false, ◌⊎◌, Option, Some, None, is_some, option_map, if◌then◌else◌}
use Rattle.std.specs.Borrow.{MutBor}
use Rattle.call_table.specs.declared.reply.Call.{Call}
use Rattle.call_table.specs.declared.reply.Reply.{Reply}
use Rattle.call_table.specs.declared.step.Step.{Step}
use Rattle.page_state.specs.declared.layout.Layout.{Layout as TheLayout}
use Rattle.page_state.specs.Layouts.{Layout}
use Rattle.page_state.specs.LayoutView.{layout_of}
use Rattle.reference_model.specs.model.Rules.{names}
use Rattle.reference_model.specs.model.Reached.{IsReached}
use Rattle.part_types.specs.declared.parts.VmPart.{VmPart}
use Rattle.part_types.specs.declared.parts.SharedPart.{SharedPart}
use Rattle.part_types.specs.declared.parts.GuestPart.{GuestPart}
use Rattle.part_types.specs.declared.parts.CpuState.{CpuState}
use Rattle.part_types.specs.Lent.{Lent, used_in, slot_in, logs_in, call_in}
use Rattle.part_types.specs.View.{cpu_of}
use Rattle.hypercalls.specs.declared.used_parts.UsedParts.{UsedParts}
use Rattle.hypercalls.specs.declared.used_parts.UsedParts.TheVariants.{Nothing, Vms, Shared, Guest, Both}
use Rattle.hypercalls.specs.Steps.{IsStepOn, any_full}
use Rattle.hypercalls.specs.Uses.{uses_of}

-- an option of a reference as a function leaves it: None, or the reference
abbrev pub OptionLeft : Type 0 → Type 0
OptionLeft X = Unit {0} ⊎ ((MutBor X × Unit {0}) ⊎ ⊥)

-- the referent of a reference at the call and at the return
module _ {X : Type 0} where
  abbrev pub given : Option (MutBor X) → Option X
  given o = option_map (λ r. r.now) o

  abbrev pub left : OptionLeft X → Option X
  left (inl none) = None
  left (inr (inl some)) = Some some.0.now
  left (inr (inr never)) = absurd never

-- the lent parts, by the three options and a CPU's own state
module _ {A : Type 0} where
  abbrev pub lent_of : Option (MutBor VmPart) → Option (MutBor (SharedPart A))
      → Option (MutBor (GuestPart A)) → CpuState → Lent A
  lent_of v s g k = record { vms = given v; shared = given s; guest = given g; cpu = k }

  abbrev pub left_of : OptionLeft VmPart → OptionLeft (SharedPart A) → OptionLeft (GuestPart A)
      → CpuState → Lent A
  left_of v s g k = record { vms = left v; shared = left s; guest = left g; cpu = k }

-- whether a step uses the VM part, the Shared part, a Guest part
abbrev pub parts_used : UsedParts → Bool × Bool × Bool
parts_used Nothing = (false, false, false)
parts_used Vms = (true, false, false)
parts_used Shared = (false, true, false)
parts_used (Guest v) = (false, false, true)
parts_used (Both v) = (false, true, true)

module _ {A : Type 0} where
  -- exactly the parts that a step uses are lent to it
  abbrev pub AreLent : Step → Lent A → Type 0
  AreLent step x =
      (is_some x.vms, is_some x.shared, is_some x.guest) ≡ parts_used (uses_of (cpu_of x.cpu) step)

  -- it belongs to a state that some run can reach
  abbrev pub IsLentReached : Layout → Step → Lent A → Type 0
  IsLentReached l step x = ∥ IsReached l (names step) (slot_in x step) x.cpu.id (used_in x) ∥₁

  -- the call that a step stores, by its reply: none if a log is full
  abbrev pub call_stored : Lent A → Step → Reply → Option Call
  call_stored x step reply = if any_full (logs_in x) then None else Some (call_in x step reply)

  -- the step that gave the reply is the reference step on the lent parts
  abbrev pub StepsLent : TheLayout → Step → Lent A → Reply → Lent A → Type 0
  StepsLent l step x reply y = IsStepOn (layout_of l) step x (call_stored x step reply) y
