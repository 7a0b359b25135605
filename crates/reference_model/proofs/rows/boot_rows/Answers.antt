use Rattle.reference_model.proofs.BootRows.{boot_tables, boot_maps, boot_block, boot_owners, share_tables, unshare_tables, share_enough}
use Rattle.reference_model.proofs.rows.boot_rows.Goals as goal

pub returns-clause-boot_tables : goal.returns-clause-boot_tables
returns-clause-boot_tables c = boot_tables

pub returns-clause-boot_maps : goal.returns-clause-boot_maps
returns-clause-boot_maps c = boot_maps

pub returns-clause-boot_block : goal.returns-clause-boot_block
returns-clause-boot_block c = boot_block

pub returns-clause-boot_owners : goal.returns-clause-boot_owners
returns-clause-boot_owners c = boot_owners

pub returns-clause-share_tables : goal.returns-clause-share_tables
returns-clause-share_tables c = share_tables

pub returns-clause-unshare_tables : goal.returns-clause-unshare_tables
returns-clause-unshare_tables c = unshare_tables

pub returns-clause-share_enough : goal.returns-clause-share_enough
returns-clause-share_enough c = share_enough
