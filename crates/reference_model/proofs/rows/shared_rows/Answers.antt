use Rattle.reference_model.proofs.SharedRows.{share_hyp_made, share_hyp_near, share_hyp_enough, share_hyp_refused, unshare_hyp_made, unshare_hyp_removes, unshare_hyp_refused, donate_hyp_made, donate_hyp_block, donate_hyp_refused, hyp_donate_host_made, hyp_donate_host_splits, hyp_donate_host_removes, hyp_donate_host_refused}
use Rattle.reference_model.proofs.rows.shared_rows.Goals as goal

pub returns-clause-share_hyp_made : goal.returns-clause-share_hyp_made
returns-clause-share_hyp_made c = share_hyp_made

pub returns-clause-share_hyp_near : goal.returns-clause-share_hyp_near
returns-clause-share_hyp_near c = share_hyp_near

pub returns-clause-share_hyp_enough : goal.returns-clause-share_hyp_enough
returns-clause-share_hyp_enough c = share_hyp_enough

pub returns-clause-share_hyp_refused : goal.returns-clause-share_hyp_refused
returns-clause-share_hyp_refused c = share_hyp_refused

pub returns-clause-unshare_hyp_made : goal.returns-clause-unshare_hyp_made
returns-clause-unshare_hyp_made c = unshare_hyp_made

pub returns-clause-unshare_hyp_removes : goal.returns-clause-unshare_hyp_removes
returns-clause-unshare_hyp_removes c = unshare_hyp_removes

pub returns-clause-unshare_hyp_refused : goal.returns-clause-unshare_hyp_refused
returns-clause-unshare_hyp_refused c = unshare_hyp_refused

pub returns-clause-donate_hyp_made : goal.returns-clause-donate_hyp_made
returns-clause-donate_hyp_made c = donate_hyp_made

pub returns-clause-donate_hyp_block : goal.returns-clause-donate_hyp_block
returns-clause-donate_hyp_block c = donate_hyp_block

pub returns-clause-donate_hyp_refused : goal.returns-clause-donate_hyp_refused
returns-clause-donate_hyp_refused c = donate_hyp_refused

pub returns-clause-hyp_donate_host_made : goal.returns-clause-hyp_donate_host_made
returns-clause-hyp_donate_host_made c = hyp_donate_host_made

pub returns-clause-hyp_donate_host_splits : goal.returns-clause-hyp_donate_host_splits
returns-clause-hyp_donate_host_splits c = hyp_donate_host_splits

pub returns-clause-hyp_donate_host_removes : goal.returns-clause-hyp_donate_host_removes
returns-clause-hyp_donate_host_removes c = hyp_donate_host_removes

pub returns-clause-hyp_donate_host_refused : goal.returns-clause-hyp_donate_host_refused
returns-clause-hyp_donate_host_refused c = hyp_donate_host_refused
