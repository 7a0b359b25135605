-- The rows of OwnerRows, computed.
use Rattle.std.proofs.Common.{refl}
use Rattle.reference_model.specs.rows.OwnerRows.{ShareRows, DonateRows, FundRows, MapRows, LendRows, GuestOwns, PoolRows, EndedRows, RowAdvances}
use Rattle.reference_model.proofs.Predictions.{computing}

pub share_rows : ShareRows
unfolding computing
share_rows = (refl, refl)

pub donate_rows : DonateRows
unfolding computing
donate_rows = (refl, refl)

pub fund_rows : FundRows
unfolding computing
fund_rows = (refl, refl)

pub map_rows : MapRows
unfolding computing
map_rows = (refl, refl, refl, refl)

pub lend_rows : LendRows
unfolding computing
lend_rows = (refl, refl)

pub guest_owns : GuestOwns
unfolding computing
guest_owns = (refl, refl, refl)

pub pool_rows : PoolRows
unfolding computing
pool_rows = (refl, refl)

pub ended_rows : EndedRows
unfolding computing
ended_rows = (refl, refl, refl, refl, refl)

pub row_advances : RowAdvances
unfolding computing
row_advances = refl
