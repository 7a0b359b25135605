use Rattle.std.proofs.Common.{refl}
use Rattle.page_state.specs.LayoutView.{layout_of}
use Rattle.part_types.specs.Lent.{lent_alone, logs_in}
use Rattle.part_types.specs.View.{cpu_of}
use Rattle.reference_model.specs.model.Rules.{guest_slot}
use Rattle.hypercalls.specs.Uses.{uses_of}
use Rattle.hypercalls.proofs.Lends.{alone_anywhere}
use Rattle.hypercalls.proofs.Stepping.{none_full}
use Rattle.part_table.specs.Does.{none_at}
use Rattle.part_table.proofs.SteppingByNumber.{none_is, none_used}
use Rattle.part_table.proofs.SteppingOn.{asks_suits, gives, none_as, not_full}
use Rattle.part_table.proofs.step.idle.Goals as goal

pub step_alone-requires-clause-uses : goal.step_alone-requires-clause-uses
step_alone-requires-clause-uses g c = none_used (uses_of (cpu_of c.args.cpu.now) c.args.step) c.requires.can.uses

pub step_alone-requires-clause-own : goal.step_alone-requires-clause-own
step_alone-requires-clause-own g c =
    (asks_suits
    (none_as (layout_of c.args.layout.now) c.args.step c.args.cpu.now
    (none_used (uses_of (cpu_of c.args.cpu.now) c.args.step) c.requires.can.uses) c.requires.can.left)).cpu

pub returns-clause-does : goal.returns-clause-does
returns-clause-does g c =
    let l = layout_of c.args.layout.now in
    let k = c.args.cpu.now in
    let new = c.step_alone.new.cpu in
    gives
    (none_as l c.args.step k
    (none_used (uses_of (cpu_of k) c.args.step) c.requires.can.uses) c.requires.can.left) c.step_alone.result
    (lent_alone new)
    (none_full (logs_in (lent_alone {A = Unit {0}} k)) (not_full k.log.room c.requires.can.own_room) refl refl refl)
    (alone_anywhere l c.args.step k new c.step_alone.result c.step_alone.ensures.step)
    c.unwrap.result c.unwrap.ensures none_at
    (record { vms = tt; shared = tt; guest = tt; cpu = c.step_alone.ensures.own })
    (none_is (guest_slot (cpu_of k) c.args.step) new)
