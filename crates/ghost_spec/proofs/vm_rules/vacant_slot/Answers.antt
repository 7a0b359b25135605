use Rattle.std.proofs.Common.{ap, sym, ◌∙◌, arith, below_more}
use Rattle.reference_model.specs.model.State.{Slot, vacant}
use Rattle.reference_model.specs.model.VmRules.{stand_eq}
use Rattle.ghost_spec.specs.Used.{vms_in}
use Rattle.ghost_spec.proofs.FoundPages.{first-is, first-none}
use Rattle.ghost_spec.proofs.vm_rules.vacant_slot.Goals as goal

pub returns-then-is_vacant-clause-value : goal.returns-then-is_vacant-clause-value
returns-then-is_vacant-clause-value c =
    let here =
    ap (λ (s : Slot). stand_eq s.stand vacant) (sym c.slot_at.ensures) ∙ sym c.is_vacant.ensures
    ∙ c.if-is_vacant.true in
    sym
    (first-is 0 64 c.loop-slot.slot (λ u. stand_eq ((vms_in c.args.vms.now).slot u).stand vacant) (omega arith)
    (omega (arith, c.loop-slot-test.true)) here c.loop-slot.invariant)

pub loop-slot-preserved : goal.loop-slot-preserved
loop-slot-preserved c =
    below_more _ _ c.loop-slot.invariant
    (ap (λ (s : Slot). stand_eq s.stand vacant) (sym c.slot_at.ensures) ∙ sym c.is_vacant.ensures
    ∙ c.if-is_vacant.false)

pub returns-clause-value : goal.returns-clause-value
returns-clause-value c =
    sym
    (first-none 0 64 (λ u. stand_eq ((vms_in c.args.vms.now).slot u).stand vacant)
    (λ j h. c.loop-slot.invariant j (omega (arith, h, c.loop-slot-test.false))))
