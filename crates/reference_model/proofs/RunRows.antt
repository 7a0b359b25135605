-- The rows of RunRows, computed.
use Rattle.std.proofs.Common.{refl}
use Rattle.reference_model.specs.rows.RunRows.{LifeBegins, LifeEnds, LifeTables, PlainLife}
use Rattle.reference_model.proofs.Predictions.{computing}

pub life_begins : LifeBegins
unfolding computing
life_begins = (refl, refl)

pub life_ends : LifeEnds
unfolding computing
life_ends = (refl, refl, refl, refl, refl, refl)

pub life_tables : LifeTables
unfolding computing
life_tables = (refl, refl, refl, refl)

pub plain_life : PlainLife
unfolding computing
plain_life = (refl, refl, refl, refl, refl)
