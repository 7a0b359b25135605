-- The rows of VmRows, computed.
use Rattle.std.proofs.Common.{refl}
use Rattle.reference_model.specs.rows.VmRows.{VmReserveMade, VmReservePlain, VmReserveRefused, VmOpenMade, VmOpenRefused, VcpuLoadMade, VcpuLoadRefused, VcpuPutMade, VcpuPutRefused, TeardownMade, TeardownRefused, VmReleaseMade, VmReleaseRefused}
use Rattle.reference_model.proofs.Predictions.{computing, refuses}

pub vm_reserve_made : VmReserveMade
unfolding computing
vm_reserve_made = (refl, (refl, refl), refl, refl, refl)

pub vm_reserve_plain : VmReservePlain
unfolding computing
vm_reserve_plain = (refl, refl, refl, refl)

pub vm_reserve_refused : VmReserveRefused
unfolding computing
vm_reserve_refused = (refuses refl, refuses refl, refuses refl, refuses refl, refuses refl)

pub vm_open_made : VmOpenMade
unfolding computing
vm_open_made = (refl, (refl, refl), refl, refl, refl)

pub vm_open_refused : VmOpenRefused
unfolding computing
vm_open_refused = (refuses refl, refuses refl, refuses refl, refuses refl, refuses refl)

pub vcpu_load_made : VcpuLoadMade
unfolding computing
vcpu_load_made = (refl, (refl, refl), refl, refl, refl, refl)

pub vcpu_load_refused : VcpuLoadRefused
unfolding computing
vcpu_load_refused = (
  refuses refl,
  refuses refl,
  refuses refl,
  refuses refl,
  refuses refl,
  refuses refl,
  refuses refl,
  refuses refl,
  refuses refl,
  refuses refl,
  refuses refl,
)

pub vcpu_put_made : VcpuPutMade
unfolding computing
vcpu_put_made = (refl, (refl, refl), refl, refl, refl)

pub vcpu_put_refused : VcpuPutRefused
unfolding computing
vcpu_put_refused = (refuses refl, refuses refl)

pub teardown_made : TeardownMade
unfolding computing
teardown_made = (refl, (refl, refl), refl, refl, refl, refl, refl, refl)

pub teardown_refused : TeardownRefused
unfolding computing
teardown_refused = (
  refuses refl,
  refuses refl,
  refuses refl,
  refuses refl,
  refuses refl,
  refuses refl,
  refuses refl,
  refuses refl,
  refuses refl,
)

pub vm_release_made : VmReleaseMade
unfolding computing
vm_release_made = (refl, (refl, refl), refl, refl, refl, refl, refl, refl)

pub vm_release_refused : VmReleaseRefused
unfolding computing
vm_release_refused = (refuses refl, refuses refl, refuses refl, refuses refl)
