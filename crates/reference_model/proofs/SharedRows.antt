-- The rows of SharedRows, computed.
use Rattle.std.proofs.Common.{refl}
use Rattle.reference_model.specs.rows.SharedRows.{ShareHypMade, ShareHypNear, ShareHypEnough, ShareHypRefused, UnshareHypMade, UnshareHypRemoves, UnshareHypRefused, DonateHypMade, DonateHypBlock, DonateHypRefused, HypDonateHostMade, HypDonateHostSplits, HypDonateHostRemoves, HypDonateHostRefused}
use Rattle.reference_model.proofs.Predictions.{computing, refuses}

pub share_hyp_made : ShareHypMade
unfolding computing
share_hyp_made = (refl, (refl, refl, refl), refl, refl, refl, refl, refl)

pub share_hyp_near : ShareHypNear
unfolding computing
share_hyp_near = (refl, refl, refl, refl)

pub share_hyp_enough : ShareHypEnough
unfolding computing
share_hyp_enough = (refl, refl)

pub share_hyp_refused : ShareHypRefused
unfolding computing
share_hyp_refused = (
  refuses refl,
  refuses refl,
  refuses refl,
  refuses refl,
  refuses refl,
  refuses refl,
  refuses refl,
  refuses refl,
  refuses refl,
  refuses refl,
  refuses refl,
)

pub unshare_hyp_made : UnshareHypMade
unfolding computing
unshare_hyp_made = (refl, (refl, refl, refl), refl, refl, refl)

pub unshare_hyp_removes : UnshareHypRemoves
unfolding computing
unshare_hyp_removes = (refl, refl, refl, refl, refl)

pub unshare_hyp_refused : UnshareHypRefused
unfolding computing
unshare_hyp_refused =
    (refuses refl, refuses refl, refuses refl, refuses refl, refuses refl, refuses refl, refuses refl, refuses refl)

pub donate_hyp_made : DonateHypMade
unfolding computing
donate_hyp_made = (refl, (refl, refl, refl), refl, refl, refl)

pub donate_hyp_block : DonateHypBlock
unfolding computing
donate_hyp_block = (refl, refl, refl, refl)

pub donate_hyp_refused : DonateHypRefused
unfolding computing
donate_hyp_refused = (
  refuses refl,
  refuses refl,
  refuses refl,
  refuses refl,
  refuses refl,
  refuses refl,
  refuses refl,
  refuses refl,
  refuses refl,
)

pub hyp_donate_host_made : HypDonateHostMade
unfolding computing
hyp_donate_host_made = (refl, (refl, refl, refl), refl, refl, refl)

pub hyp_donate_host_splits : HypDonateHostSplits
unfolding computing
hyp_donate_host_splits = (refl, refl, refl, refl, refl, refl)

pub hyp_donate_host_removes : HypDonateHostRemoves
unfolding computing
hyp_donate_host_removes = (refl, refl, refl, refl)

pub hyp_donate_host_refused : HypDonateHostRefused
unfolding computing
hyp_donate_host_refused = (
  refuses refl,
  refuses refl,
  refuses refl,
  refuses refl,
  refuses refl,
  refuses refl,
  refuses refl,
  refuses refl,
  refuses refl,
)
