use Rattle.std.proofs.Common.{◌∙◌, List, ap}
use Rattle.descriptor.specs.declared.State.TheVariants.{SharedOwned}
use Rattle.page_state.specs.declared.entry.Run.{Run}
use Rattle.page_state.specs.LayoutView.{layout_of}
use Rattle.page_state.specs.Runs.{map_of}
use Rattle.page_state.proofs.Common.{same2, same4}
use Rattle.ghost_spec.specs.declared.cpu.GhostCpu.{GhostCpu}
use Rattle.ghost_spec.specs.declared.parts.GhostGuest.{GhostGuest}
use Rattle.ghost_spec.specs.Views.{shared_in_lists}
use Rattle.ghost_rows.specs.RowsLaid.{annotated_row, any_loan, guests_loan, any_use}
use Rattle.ghost_rows.specs.ListedRows.{row_told}
use Rattle.ghost_rows.proofs.RowsFound.{told-is}
use Rattle.ghost_rows.proofs.rows.lists_of.Goals as goal

pub returns-clause-told : goal.returns-clause-told
returns-clause-told c = λ f less.
    let s = c.args.state.now in
    same4 row_told
    (c.in_ok-annotated.ensures.map f ∙ ap (λ (rs : List Run). annotated_row (map_of rs f)) c.as_slice.ensures.value)
    (c.in_ok-all_loans.ensures.map f
    ∙ ap
    (λ (gs : List GhostGuest). any_loan (layout_of s.layout) (map_of s.shared.host.runs.items)
    (map_of s.shared.hyp.runs.items) gs f) c.as_slice-guests.ensures.value)
    (c.in_ok-guest_loans.ensures.map f
    ∙ ap
    (λ (gs : List GhostGuest). guests_loan
    (layout_of s.layout) gs SharedOwned f) c.as_slice-guests.ensures.value)
    (c.in_ok-all_uses.ensures.map f less
    ∙ same2
    (λ (gs : List GhostGuest) (ks : List GhostCpu). any_use (layout_of s.layout)
    (shared_in_lists s.shared) gs ks f) c.as_slice-guests.ensures.value c.as_slice-2.ensures.value)
    ∙ told-is (layout_of s.layout) s f c.requires.guests_count c.requires.cpus_count
