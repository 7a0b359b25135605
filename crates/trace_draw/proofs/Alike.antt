-- One machine has one text.
use Rattle.std.proofs.Common.{◌∙◌, ◌++◌, sym, ap, Some, None}
use Rattle.page_state.specs.Rows.{HasPageBelow, advance_row}
use Rattle.run_list.proofs.Once.{once}
use Rattle.run_list.specs.OwnerRows.{row_laws}
use Rattle.trace_draw.specs.Laws.{OneText}
use Rattle.trace_draw.specs.Texts.{text_of_runs, text_of_slots}

pub one_text : OneText
one_text None text other h k = h ∙ sym k
one_text (Some m) text other h k =
    let same =
    once advance_row HasPageBelow _ row_laws h.runs k.runs h.of_machine.coarsest k.of_machine.coarsest
    (λ f. h.of_machine.rows f ∙ sym (k.of_machine.rows f)) in
    h.text_is ∙ ap (λ runs. text_of_runs runs ++ text_of_slots m.state.contents.vms.slot 64) same ∙ sym k.text_is
