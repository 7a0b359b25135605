use Rattle.std.proofs.Common.{◌∙◌, sym, arith}
use Rattle.page_state.proofs.Common.{not-false}
use Rattle.run_list.specs.OwnerRows.{row_laws}
use Rattle.ghost_rows.proofs.RowsKept.{told-more}
use Rattle.ghost_rows.proofs.ListedRows.{all-carried, all-later}
use Rattle.ghost_rows.proofs.rows.kept.are_pieces_listed.Goals as goal

pub loop-low-preserved : goal.loop-low-preserved
loop-low-preserved c =
    let high = c.look-high.result in
    let begun = c.loop-low.invariant.begun in
    let above = c.look-high.ensures.above in
    record {
      begun = omega (arith, begun, above);
      within = c.look-high.ensures.below;
      told =
          told-more c.args.lists.now c.args.run.now c.args.run.now.pages.first.0 c.loop-low.low high begun
          c.look-high.ensures.goes_on
          (sym c.row.ensures ∙ row_laws.is_equal _ _ (not-false _ (sym c.ne.ensures ∙ c.if-ne.false))
          ∙ c.advanced.ensures) c.loop-low.invariant.told;
      near =
          all-carried c.loop-low.low high c.look-high.new.stands c.args.lists.now
          (omega (arith, above)) c.look-high.ensures.standing;
    }

pub returns-clause-stands : goal.returns-clause-stands
returns-clause-stands c =
    λ h. all-later c.loop-low.low _ c.loop-low.stands c.args.lists.now
    (omega (arith, c.loop-low-test.false)) c.loop-low.invariant.near
