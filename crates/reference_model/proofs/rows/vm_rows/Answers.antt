use Rattle.reference_model.proofs.VmRows.{vm_reserve_made, vm_reserve_plain, vm_reserve_refused, vm_open_made, vm_open_refused, vcpu_load_made, vcpu_load_refused, vcpu_put_made, vcpu_put_refused, teardown_made, teardown_refused, vm_release_made, vm_release_refused}
use Rattle.reference_model.proofs.rows.vm_rows.Goals as goal

pub returns-clause-vm_reserve_made : goal.returns-clause-vm_reserve_made
returns-clause-vm_reserve_made c = vm_reserve_made

pub returns-clause-vm_reserve_plain : goal.returns-clause-vm_reserve_plain
returns-clause-vm_reserve_plain c = vm_reserve_plain

pub returns-clause-vm_reserve_refused : goal.returns-clause-vm_reserve_refused
returns-clause-vm_reserve_refused c = vm_reserve_refused

pub returns-clause-vm_open_made : goal.returns-clause-vm_open_made
returns-clause-vm_open_made c = vm_open_made

pub returns-clause-vm_open_refused : goal.returns-clause-vm_open_refused
returns-clause-vm_open_refused c = vm_open_refused

pub returns-clause-vcpu_load_made : goal.returns-clause-vcpu_load_made
returns-clause-vcpu_load_made c = vcpu_load_made

pub returns-clause-vcpu_load_refused : goal.returns-clause-vcpu_load_refused
returns-clause-vcpu_load_refused c = vcpu_load_refused

pub returns-clause-vcpu_put_made : goal.returns-clause-vcpu_put_made
returns-clause-vcpu_put_made c = vcpu_put_made

pub returns-clause-vcpu_put_refused : goal.returns-clause-vcpu_put_refused
returns-clause-vcpu_put_refused c = vcpu_put_refused

pub returns-clause-teardown_made : goal.returns-clause-teardown_made
returns-clause-teardown_made c = teardown_made

pub returns-clause-teardown_refused : goal.returns-clause-teardown_refused
returns-clause-teardown_refused c = teardown_refused

pub returns-clause-vm_release_made : goal.returns-clause-vm_release_made
returns-clause-vm_release_made c = vm_release_made

pub returns-clause-vm_release_refused : goal.returns-clause-vm_release_refused
returns-clause-vm_release_refused c = vm_release_refused
