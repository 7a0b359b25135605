-- The rows of AbortRows, computed.
use Rattle.std.proofs.Common.{refl}
use Rattle.reference_model.specs.rows.AbortRows.{HostAbortBlock, HostAbortPage, HostAbortKeeps, HostAbortDevice, HostAbortDeviceBlock, HostAbortRegions, HostAbortTable, HostAbortRefused, HostTranslateMade, HypTranslateMade, TranslateRefused, OwnerOfMade, OwnerOfRefused}
use Rattle.reference_model.proofs.Predictions.{computing, refuses}

pub host_abort_block : HostAbortBlock
unfolding computing
host_abort_block = (refl, (refl, refl, refl), refl, refl, refl)

pub host_abort_page : HostAbortPage
unfolding computing
host_abort_page = (refl, refl, refl)

pub host_abort_keeps : HostAbortKeeps
unfolding computing
host_abort_keeps = (refl, (refl, refl, refl), refl, refl, refl, refl)

pub host_abort_device : HostAbortDevice
unfolding computing
host_abort_device = (refl, refl, refl, refl, refl, refl)

pub host_abort_device_block : HostAbortDeviceBlock
unfolding computing
host_abort_device_block = (refl, (refl, refl, refl), refl, refl, refl, refl)

pub host_abort_regions : HostAbortRegions
unfolding computing
host_abort_regions = (refl, refl, refl, refl)

pub host_abort_table : HostAbortTable
unfolding computing
host_abort_table = (refl, refl, refl, refl)

pub host_abort_refused : HostAbortRefused
unfolding computing
host_abort_refused = (
  refuses refl,
  refuses refl,
  refuses refl,
  refuses refl,
  refuses refl,
  refuses refl,
  refuses refl,
  refuses refl,
  refuses refl,
)

pub host_translate_made : HostTranslateMade
unfolding computing
host_translate_made = (refl, (refl, refl, refl), refl, refl, refl, refl, refl)

pub hyp_translate_made : HypTranslateMade
unfolding computing
hyp_translate_made = (refl, (refl, refl, refl), refl, refl, refl, refl)

pub translate_refused : TranslateRefused
unfolding computing
translate_refused = (refuses refl, refuses refl, refuses refl, refuses refl)

pub owner_of_made : OwnerOfMade
unfolding computing
owner_of_made = (refl, (refl, refl, refl), refl, refl, refl)

pub owner_of_refused : OwnerOfRefused
unfolding computing
owner_of_refused = (refuses refl, refuses refl, refuses refl)
