-- The rows of PartRows, computed.
use Rattle.std.proofs.Common.{refl}
use Rattle.reference_model.specs.rows.PartRows.{SharedUses, GuestUses, GuestAloneUses, VmsUses, NoneUsed, OwnLogFull, SharedLogFull, GuestLogFull, VmsLogFull}
use Rattle.reference_model.proofs.Predictions.{computing, refuses}

pub shared_uses : SharedUses
unfolding computing
shared_uses = (refl, refl, refl, refl, refl, refl, refl, refl, refl, refl, refl, refl)

pub guest_uses : GuestUses
unfolding computing
guest_uses = (refl, refl, refl, refl, refl, refl, refl, refl, refl, refl, refl, refl)

pub guest_alone_uses : GuestAloneUses
unfolding computing
guest_alone_uses = (refl, refl, refl, refl)

pub vms_uses : VmsUses
unfolding computing
vms_uses = (refl, refl, refl, refl, refl, refl, refl, refl)

pub none_used : NoneUsed
unfolding computing
none_used = (refl, refl, refl, refl, refl, refl, refl, refl, refl, refl, refl, refl, refl, refl, refl)

pub own_log_full : OwnLogFull
unfolding computing
own_log_full = (refuses refl, refuses refl, refuses refl, refuses refl, refl, refl)

pub shared_log_full : SharedLogFull
unfolding computing
shared_log_full = (refuses refl, refuses refl, refl, refuses refl, refl, refl)

pub guest_log_full : GuestLogFull
unfolding computing
guest_log_full = (refuses refl, refuses refl, refl, refl, refl, refl)

pub vms_log_full : VmsLogFull
unfolding computing
vms_log_full = (refuses refl, refuses refl, refl, refuses refl, refuses refl, refl)
