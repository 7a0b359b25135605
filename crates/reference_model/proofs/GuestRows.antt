-- The rows of GuestRows, computed.
use Rattle.std.proofs.Common.{refl}
use Rattle.reference_model.specs.rows.GuestRows.{ShareGuestMade, ShareGuestNear, ShareGuestRefused, UnshareGuestMade, UnshareGuestRefused, DonateGuestMade, DonateGuestNear}
use Rattle.reference_model.proofs.Predictions.{computing, refuses}

pub share_guest_made : ShareGuestMade
unfolding computing
share_guest_made = (refl, refl, refl, refl, refl, refl, refl, refl, refl, refl)

pub share_guest_near : ShareGuestNear
unfolding computing
share_guest_near = (refl, refl, refl, refl, refl, refl, refl, refl, refl, refl)

pub share_guest_refused : ShareGuestRefused
unfolding computing
share_guest_refused = (
  refuses refl,
  refuses refl,
  refuses refl,
  refuses refl,
  refuses refl,
  refuses refl,
  refuses refl,
  refuses refl,
  refuses refl,
  refuses refl,
  refuses refl,
)

pub unshare_guest_made : UnshareGuestMade
unfolding computing
unshare_guest_made = (refl, refl, refl, refl, refl, refl, refl, refl)

pub unshare_guest_refused : UnshareGuestRefused
unfolding computing
unshare_guest_refused = (
  refuses refl,
  refuses refl,
  refuses refl,
  refuses refl,
  refuses refl,
  refuses refl,
  refuses refl,
  refuses refl,
  refuses refl,
)

pub donate_guest_made : DonateGuestMade
unfolding computing
donate_guest_made = (refl, refl, refl, refl, refl, refl, refl, refl, refl, refl)

pub donate_guest_near : DonateGuestNear
unfolding computing
donate_guest_near = (refl, refl, refl, refl, refl)
