-- The parts that a step uses, as they are taken.
use Rattle.std.specs.Prelude.{ℕ, Bool, true, false, Option, Some, None}
use Rattle.call_table.specs.declared.step.Step.{Step}
use Rattle.reference_model.specs.model.Parts.{Names, uses_vms, uses_shared}
use Rattle.reference_model.specs.model.Rules.{names, guest_slot}
use Rattle.reference_model.specs.model.State.{Cpu}
use Rattle.hypercalls.specs.declared.used_parts.UsedParts.{UsedParts}
use Rattle.hypercalls.specs.declared.used_parts.UsedParts.TheVariants.{Nothing, Vms, Shared, Guest, Both}

-- a Guest part, with or without the Shared part
abbrev pub with_slot : Bool → ℕ → UsedParts
with_slot true v = Both v
with_slot false v = Guest v

-- the Shared part alone, or no part
abbrev pub without_slot : Bool → UsedParts
without_slot true = Shared
without_slot false = Nothing

abbrev pub by_slot : Bool → Option ℕ → UsedParts
by_slot shared None = without_slot shared
by_slot shared (Some v) = with_slot shared v

abbrev pub or_vms : Bool → UsedParts → UsedParts
or_vms true other = Vms
or_vms false other = other

-- the parts of a step, from the parts that it names and the slot that was found
abbrev pub parts_of : Names → Option ℕ → UsedParts
parts_of n slot = or_vms (uses_vms n) (by_slot (uses_shared n slot) slot)

-- the parts of a step of a CPU
abbrev pub uses_of : Cpu → Step → UsedParts
uses_of k step = parts_of (names step) (guest_slot k step)
