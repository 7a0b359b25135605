use Rattle.std.proofs.Common.{◌≡◌, ◌++◌, arith, subst}
use Rattle.std.specs.Prelude.{string_bytes}
use Rattle.trace_draw.specs.Texts.{text_of_slots}
use Rattle.trace_draw.proofs.Told.{no_slots, slot_told}
use Rattle.trace_draw.proofs.snapshot.write_slots.Goals as goal
use Rattle.vm_table.specs.View.{slot_of, vms_of}

pub loop-slot-init : goal.loop-slot-init
loop-slot-init c = record { written = no_slots (vms_of c.args.table.now).slot (string_bytes c.args.text.now) }

pub loop-slot-preserved : goal.loop-slot-preserved
loop-slot-preserved c = record {
  written =
      slot_told (vms_of c.args.table.now).slot c.loop-slot.slot (slot_of c.slot-entry.result)
      (string_bytes c.args.text.now) (string_bytes c.loop-slot.text) (string_bytes c.write_slot.new.text)
      c.loop-slot.invariant.written c.slot-entry.ensures c.in_ok-write_slot.ensures;
}

pub returns : goal.returns
returns c =
    let all : c.loop-slot.slot ≡ 64 = omega (arith, c.loop-slot-test.false, c.loop-slot.auto.slot-end) in
    subst
    (λ n. string_bytes c.loop-slot.text
    ≡ string_bytes c.args.text.now ++ text_of_slots (vms_of c.args.table.now).slot n) all
    c.loop-slot.invariant.written
