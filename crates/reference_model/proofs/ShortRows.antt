-- The rows of ShortRows, computed.
use Rattle.std.proofs.Common.{refl}
use Rattle.reference_model.specs.rows.ShortRows.{TablesShort}
use Rattle.reference_model.proofs.Predictions.{computing, refuses}

pub tables_short : TablesShort
unfolding computing
tables_short = (refuses refl, refuses refl, refuses refl, refuses refl, refuses refl, refuses refl)
