use Rattle.reference_model.proofs.RangeRows.{block_given, block_split, block_refused, block_reclaimed, range_across, range_refused, range_shared, range_kept, range_moves}
use Rattle.reference_model.proofs.rows.range_rows.Goals as goal

pub returns-clause-block_given : goal.returns-clause-block_given
returns-clause-block_given c = block_given

pub returns-clause-block_split : goal.returns-clause-block_split
returns-clause-block_split c = block_split

pub returns-clause-block_refused : goal.returns-clause-block_refused
returns-clause-block_refused c = block_refused

pub returns-clause-block_reclaimed : goal.returns-clause-block_reclaimed
returns-clause-block_reclaimed c = block_reclaimed

pub returns-clause-range_across : goal.returns-clause-range_across
returns-clause-range_across c = range_across

pub returns-clause-range_refused : goal.returns-clause-range_refused
returns-clause-range_refused c = range_refused

pub returns-clause-range_shared : goal.returns-clause-range_shared
returns-clause-range_shared c = range_shared

pub returns-clause-range_kept : goal.returns-clause-range_kept
returns-clause-range_kept c = range_kept

pub returns-clause-range_moves : goal.returns-clause-range_moves
returns-clause-range_moves c = range_moves
