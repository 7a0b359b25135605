use Rattle.page_state.specs.Rows.{HasPageBelow}
use Rattle.run_list.proofs.Found.{reach_at}
use Rattle.ghost_rows.proofs.RowsKept.{told-one-more, before-next}
use Rattle.ghost_rows.proofs.RowsWhole.{near-later}
use Rattle.ghost_rows.proofs.rows.kept.are_listed.Goals as goal

pub is_run_listed-requires-clause-run : goal.is_run_listed-requires-clause-run
is_run_listed-requires-clause-run c =
    reach_at HasPageBelow c.loop-i.i c.args.rows.now _ c.requires.reach c.loop-i-test.true

pub loop-i-preserved : goal.loop-i-preserved
loop-i-preserved c =
    let told = c.is_run_listed.ensures.told.0 c.if-not-is_run_listed.false in
    record {
      told =
          told-one-more c.args.lists.now c.args.rows.now c.loop-i.i _ c.loop-i-test.true c.loop-i.invariant.told told;
      near =
          λ d less. near-later _ _ c.is_run_listed.new.near c.args.lists.now
          (before-next c.args.rows.now c.loop-i.i _ d c.requires.coarsest less)
          (c.is_run_listed.ensures.near c.if-not-is_run_listed.false);
    }
