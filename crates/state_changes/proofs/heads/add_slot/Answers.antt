use Rattle.std.proofs.Common.{subst}
use Rattle.ghost_spec.specs.States.{slot_in}
use Rattle.state_changes.specs.Changed.{slot_name, ReportsValue}
use Rattle.state_changes.specs.Heads.{slot_told}
use Rattle.state_changes.specs.Texts.{SlotHead, slot_head, text_of_slot_head}
use Rattle.state_changes.specs.Together.{Adds}
use Rattle.state_changes.proofs.Together.{adds_then}
use Rattle.state_changes.proofs.heads.add_slot.Goals as goal

pub returns : goal.returns
returns c =
    let old = c.args.text.now.items in
    let new = c.add_slot_head.new.text.items in
    let head =
    subst
    (λ (x : SlotHead). Adds
    (ReportsValue (slot_name c.args.slot) text_of_slot_head x (slot_head (slot_in c.args.after.now))) old
    new) c.slot_head_of.ensures
    (subst
    (λ (y : SlotHead). Adds
    (ReportsValue (slot_name c.args.slot) text_of_slot_head (slot_told c.slot_head_of.result) y) old
    new) c.slot_head_of-2.ensures c.in_ok-add_slot_head.ensures) in
    adds_then _ _ _ _ _ head c.in_ok-add_vcpus.ensures
