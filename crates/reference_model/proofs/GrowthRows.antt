-- The rows of GrowthRows, computed.
use Rattle.std.proofs.Common.{refl}
use Rattle.reference_model.specs.rows.GrowthRows.{Grows, NeverGrows}
use Rattle.reference_model.proofs.Predictions.{computing}

pub grows : Grows
unfolding computing
grows = (refl, refl, refl, refl, refl, refl, refl, refl, refl, refl, refl, refl, refl, refl, refl, refl, refl, refl)

pub never_grows : NeverGrows
unfolding computing
never_grows = (refl, refl, refl, refl, refl, refl, refl, refl, refl, refl, refl)
