-- The rows of BootRows, computed.
use Rattle.std.proofs.Common.{refl}
use Rattle.reference_model.specs.rows.BootRows.{BootTables, BootMaps, BootBlock, BootOwners, ShareTables, UnshareTables, ShareEnough}
use Rattle.reference_model.proofs.Predictions.{computing}

pub boot_tables : BootTables
unfolding computing
boot_tables = (refl, refl, refl, refl, refl, refl, refl, refl, refl)

pub boot_maps : BootMaps
unfolding computing
boot_maps = (refl, refl, refl, refl, refl, refl, refl)

pub boot_block : BootBlock
unfolding computing
boot_block = (refl, refl, refl, refl, refl)

pub boot_owners : BootOwners
unfolding computing
boot_owners = (refl, refl, refl, refl, refl)

pub share_tables : ShareTables
unfolding computing
share_tables = (refl, refl, refl, refl, refl, refl)

pub unshare_tables : UnshareTables
unfolding computing
unshare_tables = (refl, refl, refl, refl, refl, refl)

pub share_enough : ShareEnough
unfolding computing
share_enough = (refl, refl, refl)
