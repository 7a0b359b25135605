use Rattle.std.proofs.Common.{◌∙◌, ap}
use Rattle.vm_table.specs.View.{vms_of}
use Rattle.vm_table.proofs.Slots.{all_vacant}
use Rattle.vm_table.proofs.VmTable.new.Goals as goal

pub returns : goal.returns
returns c =
    ap vms_of (c.in_ok-slots.ensures.items_if_clones_equal (λ y e. e)) ∙ all_vacant 64 c.empty.result c.empty.ensures
