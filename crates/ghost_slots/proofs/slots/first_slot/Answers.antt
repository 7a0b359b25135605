use Rattle.std.proofs.Common.{◌≡◌, subst, arith}
use Rattle.page_state.proofs.Cases.{by_lt}
use Rattle.ghost_spec.specs.States.{contents_in}
use Rattle.ghost_slots.specs.Faults.{SlotFits}
use Rattle.ghost_slots.proofs.Past.{all-slots}
use Rattle.ghost_slots.proofs.slots.first_slot.Goals as goal

pub returns : goal.returns
returns c =
    all-slots c.args.state.now c.requires.kept c.loop-slot.slot c.loop-slot-test.false c.requires.cpus
    c.loop-slot.invariant

pub slot_fault-requires-clause-before : goal.slot_fault-requires-clause-before
slot_fault-requires-clause-before c = record { cpus = c.requires.cpus; slots = c.loop-slot.invariant }

pub loop-slot-preserved : goal.loop-slot-preserved
loop-slot-preserved c = λ d less. by_lt d c.loop-slot.slot (λ l. c.loop-slot.invariant d l) (λ l.
    let e : c.loop-slot.slot ≡ d = omega (arith, l, less) in
    subst (SlotFits (contents_in c.args.state.now)) e c.in_default.ensures)
