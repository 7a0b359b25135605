-- The rows of LoadedRows, computed.
use Rattle.std.proofs.Common.{refl}
use Rattle.reference_model.specs.rows.LoadedRows.{DonateGuestRefused, GuestShareHostMade, GuestShareHostRefused, GuestUnshareHostMade, GuestUnshareHostRefused, GuestRelaxMade, RightsJoined, GuestRelaxRefused, GuestTranslateMade, GuestTranslateRefused}
use Rattle.reference_model.proofs.Predictions.{computing, refuses}

pub donate_guest_refused : DonateGuestRefused
unfolding computing
donate_guest_refused = (
  refuses refl,
  refuses refl,
  refuses refl,
  refuses refl,
  refuses refl,
  refuses refl,
  refuses refl,
  refuses refl,
  refuses refl,
  refuses refl,
  refuses refl,
)

pub guest_share_host_made : GuestShareHostMade
unfolding computing
guest_share_host_made = (refl, refl, refl, refl, refl, refl, refl, refl, refl)

pub guest_share_host_refused : GuestShareHostRefused
unfolding computing
guest_share_host_refused = (refuses refl, refuses refl, refuses refl, refuses refl, refuses refl)

pub guest_unshare_host_made : GuestUnshareHostMade
unfolding computing
guest_unshare_host_made = (refl, refl, refl, refl, refl, refl)

pub guest_unshare_host_refused : GuestUnshareHostRefused
unfolding computing
guest_unshare_host_refused = (refuses refl, refuses refl, refuses refl, refuses refl, refuses refl)

pub guest_relax_made : GuestRelaxMade
unfolding computing
guest_relax_made = (refl, (refl, refl), refl, refl, refl, refl, refl)

pub rights_joined : RightsJoined
unfolding computing
rights_joined = (refl, refl, refl, refl, refl, refl, refl, refl, refl, refl, refl, refl, refl, refl, refl, refl)

pub guest_relax_refused : GuestRelaxRefused
unfolding computing
guest_relax_refused = (refuses refl, refuses refl, refuses refl, refuses refl, refuses refl)

pub guest_translate_made : GuestTranslateMade
unfolding computing
guest_translate_made = (refl, (refl, refl), refl, refl, refl, refl)

pub guest_translate_refused : GuestTranslateRefused
unfolding computing
guest_translate_refused = (refuses refl, refuses refl, refuses refl, refuses refl, refuses refl)
