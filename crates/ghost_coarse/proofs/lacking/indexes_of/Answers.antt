use Rattle.ghost_coarse.proofs.Listing.{indexes-more}
use Rattle.ghost_coarse.proofs.lacking.indexes_of.Goals as goal

pub loop-i-preserved : goal.loop-i-preserved
loop-i-preserved c =
    indexes-more c.args.depth c.args.tables.now c.loop-i.i _ _ _ c.loop-i-test.true c.loop-i.invariant
    c.in_ok-push_index.ensures
