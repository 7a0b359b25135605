-- The rows of EndRows, computed.
use Rattle.std.proofs.Common.{refl}
use Rattle.reference_model.specs.rows.EndRows.{MarkDyingMade, MarkDyingRefused, ReclaimPageOwned, ReclaimPageShared, ReclaimPageRemoves, ReclaimPageRefused, ReclaimPoolMade, ReclaimPoolRefused, FinishGuestMade, FinishGuestRefused}
use Rattle.reference_model.proofs.Predictions.{computing, refuses}

pub mark_dying_made : MarkDyingMade
unfolding computing
mark_dying_made = (refl, (refl, refl), refl, refl, refl)

pub mark_dying_refused : MarkDyingRefused
unfolding computing
mark_dying_refused = (refuses refl, refuses refl, refuses refl, refuses refl, refuses refl)

pub reclaim_page_owned : ReclaimPageOwned
unfolding computing
reclaim_page_owned = (refl, refl, refl, refl, refl, refl, refl)

pub reclaim_page_shared : ReclaimPageShared
unfolding computing
reclaim_page_shared = (refl, refl, refl, refl, refl, refl)

pub reclaim_page_removes : ReclaimPageRemoves
unfolding computing
reclaim_page_removes = (refl, refl, refl, refl)

pub reclaim_page_refused : ReclaimPageRefused
unfolding computing
reclaim_page_refused = (refuses refl, refuses refl, refuses refl, refuses refl, refuses refl, refuses refl)

pub reclaim_pool_made : ReclaimPoolMade
unfolding computing
reclaim_pool_made = (refl, refl, refl, refl, refl, refl, refl, refl)

pub reclaim_pool_refused : ReclaimPoolRefused
unfolding computing
reclaim_pool_refused = (refuses refl, refuses refl, refuses refl, refuses refl, refuses refl, refuses refl)

pub finish_guest_made : FinishGuestMade
unfolding computing
finish_guest_made = (refl, refl, refl, refl, refl, refl, refl, refl)

pub finish_guest_refused : FinishGuestRefused
unfolding computing
finish_guest_refused = (refuses refl, refuses refl, refuses refl, refuses refl, refuses refl, refuses refl)
