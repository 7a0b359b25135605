use Rattle.std.proofs.Common.{◌≡◌, ℕ, ◌<◌, true, false, None, get_or}
use Rattle.page_state.specs.declared.layout.Region.{Region}
use Rattle.page_state.specs.Layouts.{is_memory}
use Rattle.page_state.specs.LayoutView.{layout_of}
use Rattle.page_state.specs.Regions.{is_in_range}
use Rattle.page_state.specs.Rows.{HasPageBelow}
use Rattle.reference_model.specs.model.State.{no_cpu, no_guest}
use Rattle.run_list.specs.Runs.{AreInReach}
use Rattle.ghost_spec.specs.RowsFound.{row_found}
use Rattle.ghost_spec.specs.Views.{row_in, shared_in_lists}
use Rattle.ghost_spec.proofs.rows.find_all.Given as goal

abbrev pub invariant-loop-i : goal.invariant-loop-i
invariant-loop-i l = record {
  host : l.shared.host ≡ l.fn.shared.host;
  hyp : l.shared.hyp ≡ l.fn.shared.hyp;
  free : l.shared.free ≡ l.fn.shared.free;
  reach : AreInReach HasPageBelow l.shared.rows.runs;
  same : (f : ℕ)
      → is_memory (layout_of l.layout) f ≡ false
      → row_in l.shared.rows.runs f ≡ row_in l.fn.shared.rows.runs f;
  found : (f k : ℕ) (d : Region)
      → k < l.i
      → is_in_range (get_or l.layout.map.regions k d).pages f ≡ true
      → is_memory (layout_of l.layout) f ≡ true
      → row_in l.shared.rows.runs f
      ≡ row_found (layout_of l.layout) (shared_in_lists l.fn.shared) None no_guest f 0 no_cpu;
}
