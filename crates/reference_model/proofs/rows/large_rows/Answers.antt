use Rattle.reference_model.proofs.LargeRows.{host_abort_largest, host_abort_smaller, finish_guest_short, finish_guest_splits}
use Rattle.reference_model.proofs.rows.large_rows.Goals as goal

pub returns-clause-host_abort_largest : goal.returns-clause-host_abort_largest
returns-clause-host_abort_largest c = host_abort_largest

pub returns-clause-host_abort_smaller : goal.returns-clause-host_abort_smaller
returns-clause-host_abort_smaller c = host_abort_smaller

pub returns-clause-finish_guest_short : goal.returns-clause-finish_guest_short
returns-clause-finish_guest_short c = finish_guest_short

pub returns-clause-finish_guest_splits : goal.returns-clause-finish_guest_splits
returns-clause-finish_guest_splits c = finish_guest_splits
