-- The rows of RangeRows, computed.
use Rattle.std.proofs.Common.{refl}
use Rattle.reference_model.specs.rows.RangeRows.{BlockGiven, BlockSplit, BlockRefused, BlockReclaimed, RangeAcross, RangeRefused, RangeShared, RangeKept, RangeMoves}
use Rattle.reference_model.proofs.Predictions.{computing, refuses}

pub block_given : BlockGiven
unfolding computing
block_given = (refl, refl, refl, refl, refl, refl, refl)

pub block_split : BlockSplit
unfolding computing
block_split = (refl, refl, refl, refl, refl, refl, refl, refl, refl, refl, refl)

pub block_refused : BlockRefused
unfolding computing
block_refused = (refuses refl, refuses refl, refuses refl, refuses refl)

pub block_reclaimed : BlockReclaimed
unfolding computing
block_reclaimed = (refl, refl, refl, refl, refl)

pub range_across : RangeAcross
unfolding computing
range_across = (refl, refl, refl, refl, refl, refl, refl, refl, refl)

pub range_refused : RangeRefused
unfolding computing
range_refused = (
  refuses refl,
  refuses refl,
  refuses refl,
  refuses refl,
  refuses refl,
  refuses refl,
  refuses refl,
  refuses refl,
  refuses refl,
  refuses refl,
  refl,
)

pub range_shared : RangeShared
unfolding computing
range_shared = (refl, refl, refl)

pub range_kept : RangeKept
unfolding computing
range_kept = (refl, refl)

pub range_moves : RangeMoves
range_moves = (refl, refl)
