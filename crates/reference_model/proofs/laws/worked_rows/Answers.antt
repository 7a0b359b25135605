use Rattle.reference_model.proofs.Examples.{need_row, split_row, removal_row, fold_row, unaligned_row, can_boot_row, boot_row, wide_boot_row, share_row, beside_row, near_row, again_row, carve_row, device_row, past_row, no_frame_row, one_frame_row, full_log_row, full_shared_row, room_row, owner_row}
use Rattle.reference_model.proofs.laws.worked_rows.Goals as goal

pub returns-clause-boot : goal.returns-clause-boot
returns-clause-boot c = boot_row

pub returns-clause-wide_boot : goal.returns-clause-wide_boot
returns-clause-wide_boot c = wide_boot_row

pub returns-clause-share : goal.returns-clause-share
returns-clause-share c = share_row

pub returns-clause-beside : goal.returns-clause-beside
returns-clause-beside c = beside_row

pub returns-clause-near : goal.returns-clause-near
returns-clause-near c = near_row

pub returns-clause-again : goal.returns-clause-again
returns-clause-again c = again_row

pub returns-clause-carve : goal.returns-clause-carve
returns-clause-carve c = carve_row

pub returns-clause-device : goal.returns-clause-device
returns-clause-device c = device_row

pub returns-clause-past : goal.returns-clause-past
returns-clause-past c = past_row

pub returns-clause-no_frame : goal.returns-clause-no_frame
returns-clause-no_frame c = no_frame_row

pub returns-clause-one_frame : goal.returns-clause-one_frame
returns-clause-one_frame c = one_frame_row

pub returns-clause-full_log : goal.returns-clause-full_log
returns-clause-full_log c = full_log_row

pub returns-clause-full_shared : goal.returns-clause-full_shared
returns-clause-full_shared c = full_shared_row

pub returns-clause-room : goal.returns-clause-room
returns-clause-room c = room_row

pub returns-clause-need : goal.returns-clause-need
returns-clause-need c = need_row

pub returns-clause-split : goal.returns-clause-split
returns-clause-split c = split_row

pub returns-clause-removal : goal.returns-clause-removal
returns-clause-removal c = removal_row

pub returns-clause-fold : goal.returns-clause-fold
returns-clause-fold c = fold_row

pub returns-clause-unaligned : goal.returns-clause-unaligned
returns-clause-unaligned c = unaligned_row

pub returns-clause-can_boot : goal.returns-clause-can_boot
returns-clause-can_boot c = can_boot_row

pub returns-clause-owner : goal.returns-clause-owner
returns-clause-owner c = owner_row
