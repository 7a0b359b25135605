use Rattle.std.proofs.Common.{◌≡◌, ℕ, ◌&&◌, true, false}
use Rattle.page_state.specs.Layouts.{is_memory}
use Rattle.page_state.specs.LayoutView.{layout_of}
use Rattle.page_state.specs.Map.{is_within}
use Rattle.page_state.specs.Rows.{HasPageBelow}
use Rattle.run_list.specs.Runs.{AreInReach}
use Rattle.ghost_spec.specs.RowsFound.{row_found}
use Rattle.ghost_spec.specs.States.{guest_in}
use Rattle.ghost_spec.specs.Views.{cpu_in, row_in, shared_in_lists}
use Rattle.ghost_spec.proofs.rows.find_range.Given as goal

abbrev pub invariant-loop-i : goal.invariant-loop-i
invariant-loop-i l = record {
  host : l.shared.host ≡ l.fn.shared.host;
  hyp : l.shared.hyp ≡ l.fn.shared.hyp;
  free : l.shared.free ≡ l.fn.shared.free;
  reach : AreInReach HasPageBelow l.shared.rows.runs;
  rows : (f : ℕ)
      → row_in l.shared.rows.runs f
      ≡ elim (is_memory (layout_of l.layout) f && is_within l.range.first.0 l.i f) [
        | true ↦ row_found (layout_of l.layout) (shared_in_lists l.fn.shared) l.slot (guest_in l.guest) f l.cpu
            (cpu_in l.own)
        | false ↦ row_in l.fn.shared.rows.runs f
      ];
}
