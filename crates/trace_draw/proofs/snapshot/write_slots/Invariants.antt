use Rattle.std.specs.Prelude.{◌≡◌, ◌++◌, string_bytes}
use Rattle.trace_draw.specs.Texts.{text_of_slots}
use Rattle.vm_table.specs.View.{vms_of}
use Rattle.trace_draw.proofs.snapshot.write_slots.Given as goal

abbrev pub invariant-loop-slot : goal.invariant-loop-slot
invariant-loop-slot l =
    record { written : string_bytes l.text ≡ string_bytes l.initial.text ++ text_of_slots (vms_of l.table).slot l.slot }
