use Rattle.reference_model.proofs.PartRows.{shared_uses, guest_uses, guest_alone_uses, vms_uses, none_used, own_log_full, shared_log_full, guest_log_full, vms_log_full}
use Rattle.reference_model.proofs.GrowthRows.{grows, never_grows}
use Rattle.reference_model.proofs.NumberRows.{numbers_made, numbers_only}
use Rattle.reference_model.proofs.rows.part_rows.Goals as goal

pub returns-clause-shared_uses : goal.returns-clause-shared_uses
returns-clause-shared_uses c = shared_uses

pub returns-clause-guest_uses : goal.returns-clause-guest_uses
returns-clause-guest_uses c = guest_uses

pub returns-clause-guest_alone_uses : goal.returns-clause-guest_alone_uses
returns-clause-guest_alone_uses c = guest_alone_uses

pub returns-clause-vms_uses : goal.returns-clause-vms_uses
returns-clause-vms_uses c = vms_uses

pub returns-clause-none_used : goal.returns-clause-none_used
returns-clause-none_used c = none_used

pub returns-clause-own_log_full : goal.returns-clause-own_log_full
returns-clause-own_log_full c = own_log_full

pub returns-clause-shared_log_full : goal.returns-clause-shared_log_full
returns-clause-shared_log_full c = shared_log_full

pub returns-clause-guest_log_full : goal.returns-clause-guest_log_full
returns-clause-guest_log_full c = guest_log_full

pub returns-clause-vms_log_full : goal.returns-clause-vms_log_full
returns-clause-vms_log_full c = vms_log_full

pub returns-clause-grows : goal.returns-clause-grows
returns-clause-grows c = grows

pub returns-clause-never_grows : goal.returns-clause-never_grows
returns-clause-never_grows c = never_grows

pub returns-clause-numbers_made : goal.returns-clause-numbers_made
returns-clause-numbers_made c = numbers_made

pub returns-clause-numbers_only : goal.returns-clause-numbers_only
returns-clause-numbers_only c = numbers_only
