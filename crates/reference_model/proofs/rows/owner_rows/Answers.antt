use Rattle.reference_model.proofs.OwnerRows.{share_rows, donate_rows, fund_rows, map_rows, lend_rows, guest_owns, pool_rows, ended_rows, row_advances}
use Rattle.reference_model.proofs.FoundRows.{owners_found, first_found, uses_found, guest_kept, hyp_kept}
use Rattle.reference_model.proofs.rows.owner_rows.Goals as goal

pub returns-clause-share_rows : goal.returns-clause-share_rows
returns-clause-share_rows c = share_rows

pub returns-clause-donate_rows : goal.returns-clause-donate_rows
returns-clause-donate_rows c = donate_rows

pub returns-clause-fund_rows : goal.returns-clause-fund_rows
returns-clause-fund_rows c = fund_rows

pub returns-clause-map_rows : goal.returns-clause-map_rows
returns-clause-map_rows c = map_rows

pub returns-clause-lend_rows : goal.returns-clause-lend_rows
returns-clause-lend_rows c = lend_rows

pub returns-clause-guest_owns : goal.returns-clause-guest_owns
returns-clause-guest_owns c = guest_owns

pub returns-clause-pool_rows : goal.returns-clause-pool_rows
returns-clause-pool_rows c = pool_rows

pub returns-clause-ended_rows : goal.returns-clause-ended_rows
returns-clause-ended_rows c = ended_rows

pub returns-clause-row_advances : goal.returns-clause-row_advances
returns-clause-row_advances c = row_advances

pub returns-clause-owners_found : goal.returns-clause-owners_found
returns-clause-owners_found c = owners_found

pub returns-clause-first_found : goal.returns-clause-first_found
returns-clause-first_found c = first_found

pub returns-clause-uses_found : goal.returns-clause-uses_found
returns-clause-uses_found c = uses_found

pub returns-clause-guest_kept : goal.returns-clause-guest_kept
returns-clause-guest_kept c = guest_kept

pub returns-clause-hyp_kept : goal.returns-clause-hyp_kept
returns-clause-hyp_kept c = hyp_kept
