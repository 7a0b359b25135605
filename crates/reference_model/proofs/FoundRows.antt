-- The rows of FoundRows, computed.
use Rattle.std.proofs.Common.{refl}
use Rattle.reference_model.specs.rows.FoundRows.{OwnersFound, FirstFound, UsesFound, GuestKept, HypKept}
use Rattle.reference_model.proofs.Predictions.{computing}

pub owners_found : OwnersFound
unfolding computing
owners_found = refl

pub first_found : FirstFound
unfolding computing
first_found = refl

pub uses_found : UsesFound
unfolding computing
uses_found = refl

pub guest_kept : GuestKept
unfolding computing
guest_kept = (refl, refl, refl, refl, refl, refl, refl)

pub hyp_kept : HypKept
unfolding computing
hyp_kept = (refl, refl, refl, refl, refl)
