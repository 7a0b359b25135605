use Rattle.reference_model.proofs.EndRows.{mark_dying_made, mark_dying_refused, reclaim_page_owned, reclaim_page_shared, reclaim_page_removes, reclaim_page_refused, reclaim_pool_made, reclaim_pool_refused, finish_guest_made, finish_guest_refused}
use Rattle.reference_model.proofs.rows.end_rows.Goals as goal

pub returns-clause-mark_dying_made : goal.returns-clause-mark_dying_made
returns-clause-mark_dying_made c = mark_dying_made

pub returns-clause-mark_dying_refused : goal.returns-clause-mark_dying_refused
returns-clause-mark_dying_refused c = mark_dying_refused

pub returns-clause-reclaim_page_owned : goal.returns-clause-reclaim_page_owned
returns-clause-reclaim_page_owned c = reclaim_page_owned

pub returns-clause-reclaim_page_shared : goal.returns-clause-reclaim_page_shared
returns-clause-reclaim_page_shared c = reclaim_page_shared

pub returns-clause-reclaim_page_removes : goal.returns-clause-reclaim_page_removes
returns-clause-reclaim_page_removes c = reclaim_page_removes

pub returns-clause-reclaim_page_refused : goal.returns-clause-reclaim_page_refused
returns-clause-reclaim_page_refused c = reclaim_page_refused

pub returns-clause-reclaim_pool_made : goal.returns-clause-reclaim_pool_made
returns-clause-reclaim_pool_made c = reclaim_pool_made

pub returns-clause-reclaim_pool_refused : goal.returns-clause-reclaim_pool_refused
returns-clause-reclaim_pool_refused c = reclaim_pool_refused

pub returns-clause-finish_guest_made : goal.returns-clause-finish_guest_made
returns-clause-finish_guest_made c = finish_guest_made

pub returns-clause-finish_guest_refused : goal.returns-clause-finish_guest_refused
returns-clause-finish_guest_refused c = finish_guest_refused
