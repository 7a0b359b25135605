use Rattle.std.proofs.Common.{◌∙◌, sym, arith}
use Rattle.reference_model.specs.model.State.{vacant}
use Rattle.reference_model.specs.model.VmRules.{stand_eq}
use Rattle.vm_table.specs.View.{vms_of}
use Rattle.vm_table.proofs.Searches.{first_found, none_found}
use Rattle.vm_table.proofs.VmTable.vacant.Goals as goal

pub returns-then-is_vacant-clause-value : goal.returns-then-is_vacant-clause-value
returns-then-is_vacant-clause-value c =
    first_found 64 c.loop-slot.slot
    (λ u. stand_eq ((vms_of c.args.self.now).slot u).stand vacant) c.loop-slot-test.true
    (sym c.is_vacant.ensures ∙ c.if-is_vacant.true) c.loop-slot.invariant

pub returns-clause-value : goal.returns-clause-value
returns-clause-value c =
    none_found 64 (λ u. stand_eq ((vms_of c.args.self.now).slot u).stand vacant)
    (λ j less. c.loop-slot.invariant j (omega (arith, less, c.loop-slot-test.false)))
