-- The rows of HandRows, computed.
use Rattle.std.proofs.Common.{refl}
use Rattle.reference_model.specs.rows.HandRows.{FundMade, FundRefused, UnfundMade, UnfundSplits, UnfundRefused, InstallMade, InstallPlain, InstallRefused, TopupMade, TopupDying, TopupEnough, TopupRefused}
use Rattle.reference_model.proofs.Predictions.{computing, refuses}

pub fund_made : FundMade
unfolding computing
fund_made = (refl, refl, refl, refl, refl, refl, refl)

pub fund_refused : FundRefused
unfolding computing
fund_refused = (
  refuses refl,
  refuses refl,
  refuses refl,
  refuses refl,
  refuses refl,
  refuses refl,
  refuses refl,
  refuses refl,
  refuses refl,
  refuses refl,
)

pub unfund_made : UnfundMade
unfolding computing
unfund_made = (refl, refl, refl, refl, refl)

pub unfund_splits : UnfundSplits
unfolding computing
unfund_splits = (refl, refl, refl, refl, refl, refl, refl)

pub unfund_refused : UnfundRefused
unfolding computing
unfund_refused = (refuses refl, refuses refl)

pub install_made : InstallMade
unfolding computing
install_made = (refl, refl, refl, refl, refl, refl, refl, refl, refl, refl, refl)

pub install_plain : InstallPlain
unfolding computing
install_plain = (refl, refl)

pub install_refused : InstallRefused
unfolding computing
install_refused = (refuses refl, refuses refl, refuses refl, refuses refl, refuses refl)

pub topup_made : TopupMade
unfolding computing
topup_made = (refl, refl, refl, refl, refl, refl, refl)

pub topup_dying : TopupDying
unfolding computing
topup_dying = (refl, refl, refl)

pub topup_enough : TopupEnough
unfolding computing
topup_enough = refl

pub topup_refused : TopupRefused
unfolding computing
topup_refused = (refuses refl, refuses refl, refuses refl, refuses refl, refuses refl, refuses refl, refuses refl)
