use Rattle.std.proofs.Common.{◌&&◌, true, false, None, ap, ◌∙◌}
use Rattle.page_state.specs.LayoutView.{layout_of}
use Rattle.page_state.specs.Layouts.{is_memory}
use Rattle.page_state.specs.Regions.{is_in_range}
use Rattle.reference_model.specs.model.State.{Guest, no_cpu}
use Rattle.ghost_spec.specs.RowsFound.{row_found}
use Rattle.ghost_spec.specs.Views.{row_in, shared_in_lists}
use Rattle.ghost_spec.proofs.rows.find_first.Goals as goal

pub returns-clause-rows : goal.returns-clause-rows
returns-clause-rows c = λ f.
    c.in_ok-find_range.ensures.rows f
    ∙ ap
    (λ (g : Guest). elim (is_memory (layout_of c.args.layout.now) f && is_in_range c.args.range f) [
      | true ↦ row_found (layout_of c.args.layout.now) (shared_in_lists c.args.shared.now) None g f 0 no_cpu
      | false ↦ row_in c.args.shared.now.rows.runs f
    ]) c.none-none.ensures.none
