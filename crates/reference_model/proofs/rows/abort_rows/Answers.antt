use Rattle.reference_model.proofs.AbortRows.{host_abort_block, host_abort_page, host_abort_keeps, host_abort_device, host_abort_device_block, host_abort_regions, host_abort_table, host_abort_refused, host_translate_made, hyp_translate_made, translate_refused, owner_of_made, owner_of_refused}
use Rattle.reference_model.proofs.rows.abort_rows.Goals as goal

pub returns-clause-host_abort_block : goal.returns-clause-host_abort_block
returns-clause-host_abort_block c = host_abort_block

pub returns-clause-host_abort_page : goal.returns-clause-host_abort_page
returns-clause-host_abort_page c = host_abort_page

pub returns-clause-host_abort_keeps : goal.returns-clause-host_abort_keeps
returns-clause-host_abort_keeps c = host_abort_keeps

pub returns-clause-host_abort_device : goal.returns-clause-host_abort_device
returns-clause-host_abort_device c = host_abort_device

pub returns-clause-host_abort_device_block : goal.returns-clause-host_abort_device_block
returns-clause-host_abort_device_block c = host_abort_device_block

pub returns-clause-host_abort_regions : goal.returns-clause-host_abort_regions
returns-clause-host_abort_regions c = host_abort_regions

pub returns-clause-host_abort_table : goal.returns-clause-host_abort_table
returns-clause-host_abort_table c = host_abort_table

pub returns-clause-host_abort_refused : goal.returns-clause-host_abort_refused
returns-clause-host_abort_refused c = host_abort_refused

pub returns-clause-host_translate_made : goal.returns-clause-host_translate_made
returns-clause-host_translate_made c = host_translate_made

pub returns-clause-hyp_translate_made : goal.returns-clause-hyp_translate_made
returns-clause-hyp_translate_made c = hyp_translate_made

pub returns-clause-translate_refused : goal.returns-clause-translate_refused
returns-clause-translate_refused c = translate_refused

pub returns-clause-owner_of_made : goal.returns-clause-owner_of_made
returns-clause-owner_of_made c = owner_of_made

pub returns-clause-owner_of_refused : goal.returns-clause-owner_of_refused
returns-clause-owner_of_refused c = owner_of_refused
