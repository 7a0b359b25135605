use Rattle.std.proofs.Common.{◌≡◌, ◌∙◌, ◌+◌, ◌-◌, ℕ, None, Some, ap, subst, arith}
use Rattle.page_state.specs.declared.row.Row.{Row}
use Rattle.page_state.specs.Rows.{advance_row}
use Rattle.run_list.specs.Runs.{run_map, map_updated, EndBefore}
use Rattle.ghost_rows.specs.ListedRows.{told}
use Rattle.ghost_rows.proofs.ListedRows.{piece-more, all-carried}
use Rattle.ghost_rows.proofs.rows.range_rows.Goals as goal

pub loop-low-preserved : goal.loop-low-preserved
loop-low-preserved c =
    let begun = c.loop-low.invariant.begun in
    let above = c.look-high.ensures.above in
    let laid =
    c.in_ok-put_last.ensures.map
    ∙ ap
    (λ (r : Row). map_updated advance_row (run_map advance_row c.loop-low.rows.items) c.loop-low.low
    (c.look-high.result - c.loop-low.low) (Some r)) c.row.ensures in
    let end : c.loop-low.low + (c.look-high.result - c.loop-low.low) + 1 ≡ c.look-high.result + 1 =
    omega (arith, above) in
    record {
      begun = omega (arith, begun, above);
      within = c.look-high.ensures.below;
      map =
          λ f. piece-more c.args.pages.first.0 c.loop-low.low c.look-high.result f
          (run_map advance_row c.loop-low.rows.items) (run_map advance_row c.put_last.new.rows.items)
          (λ (g : ℕ). None)
          (told c.args.lists.now) begun above c.look-high.ensures.goes_on c.loop-low.invariant.map laid;
      kept = c.in_ok-put_last.ensures.kept;
      behind = subst (λ (n : ℕ). EndBefore n c.put_last.new.rows.items) end c.in_ok-put_last.ensures.behind;
      near =
          all-carried c.loop-low.low c.look-high.result c.look-high.new.stands c.args.lists.now
          (omega (arith, above)) c.look-high.ensures.standing;
    }
