use Rattle.reference_model.proofs.HandRows.{fund_made, fund_refused, unfund_made, unfund_splits, unfund_refused, install_made, install_plain, install_refused, topup_made, topup_dying, topup_enough, topup_refused}
use Rattle.reference_model.proofs.rows.hand_rows.Goals as goal

pub returns-clause-fund_made : goal.returns-clause-fund_made
returns-clause-fund_made c = fund_made

pub returns-clause-fund_refused : goal.returns-clause-fund_refused
returns-clause-fund_refused c = fund_refused

pub returns-clause-unfund_made : goal.returns-clause-unfund_made
returns-clause-unfund_made c = unfund_made

pub returns-clause-unfund_splits : goal.returns-clause-unfund_splits
returns-clause-unfund_splits c = unfund_splits

pub returns-clause-unfund_refused : goal.returns-clause-unfund_refused
returns-clause-unfund_refused c = unfund_refused

pub returns-clause-install_made : goal.returns-clause-install_made
returns-clause-install_made c = install_made

pub returns-clause-install_plain : goal.returns-clause-install_plain
returns-clause-install_plain c = install_plain

pub returns-clause-install_refused : goal.returns-clause-install_refused
returns-clause-install_refused c = install_refused

pub returns-clause-topup_made : goal.returns-clause-topup_made
returns-clause-topup_made c = topup_made

pub returns-clause-topup_dying : goal.returns-clause-topup_dying
returns-clause-topup_dying c = topup_dying

pub returns-clause-topup_enough : goal.returns-clause-topup_enough
returns-clause-topup_enough c = topup_enough

pub returns-clause-topup_refused : goal.returns-clause-topup_refused
returns-clause-topup_refused c = topup_refused
