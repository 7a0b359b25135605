use Rattle.std.proofs.Common.{true, false, ap, sym, ◌∙◌}
use Rattle.page_state.specs.declared.row.Row.{Row}
use Rattle.page_state.specs.LayoutView.{layout_of}
use Rattle.page_state.specs.Map.{is_within}
use Rattle.ghost_spec.specs.Views.{row_in}
use Rattle.ghost_spec.proofs.RowsKept.{row-one, row-other}
use Rattle.ghost_spec.proofs.rows.find_row.Goals as goal

pub returns-then-not-is_memory-clause-rows : goal.returns-then-not-is_memory-clause-rows
returns-then-not-is_memory-clause-rows c =
    λ f. row-other (layout_of c.args.layout.now) c.args.frame _ (row_in c.args.shared.now.rows.runs f)
    (sym c.is_memory.ensures.value ∙ c.if-not-is_memory.true) f

pub returns-clause-rows : goal.returns-clause-rows
returns-clause-rows c = λ f.
    c.in_ok-set_row.ensures.row f
    ∙ ap
    (λ (r : Row). elim (is_within c.args.frame 1 f)
    [ true ↦ r | false ↦ row_in c.args.shared.now.rows.runs f ]) c.row_found-row.ensures.value
    ∙ row-one (layout_of c.args.layout.now) c.args.frame _ (row_in c.args.shared.now.rows.runs f)
    (sym c.is_memory.ensures.value ∙ c.if-not-is_memory.false) f
