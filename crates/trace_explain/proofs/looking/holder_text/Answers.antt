use Rattle.std.proofs.Common.{◌≡◌, ◌∙◌, IfOk, ap, arith, string_bytes, subst}
use Rattle.trace_explain.specs.Texts.{text_of_vcpu}
use Rattle.trace_explain.proofs.Held.{in_table}
use Rattle.trace_explain.proofs.looking.holder_text.Goals as goal
use Rattle.vm_table.specs.View.{vms_of}

pub returns : goal.returns
returns g c =
    in_table c.vcpu_text.result string_bytes c.args.slot _ _ (omega (arith, c.if-slot-ge-SLOTS.false))
    (subst (λ s. IfOk c.vcpu_text.result (λ text. string_bytes text ≡ text_of_vcpu s c.args.vcpu))
    (c.slot.ensures ∙ ap (λ p. (vms_of p.vms.table).slot c.args.slot) c.parts.ensures) c.vcpu_text.ensures)
