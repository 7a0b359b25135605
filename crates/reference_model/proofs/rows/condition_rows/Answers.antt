use Rattle.reference_model.proofs.ConditionRows.{host_alone_row, host_shared_row, hyp_row, guest_row, rows_of_each, keepers_row, moves_row}
use Rattle.reference_model.proofs.rows.condition_rows.Goals as goal

pub returns-clause-host_alone : goal.returns-clause-host_alone
returns-clause-host_alone c = host_alone_row

pub returns-clause-host_shared : goal.returns-clause-host_shared
returns-clause-host_shared c = host_shared_row

pub returns-clause-hyp : goal.returns-clause-hyp
returns-clause-hyp c = hyp_row

pub returns-clause-guest : goal.returns-clause-guest
returns-clause-guest c = guest_row

pub returns-clause-rows : goal.returns-clause-rows
returns-clause-rows c = rows_of_each

pub returns-clause-keepers : goal.returns-clause-keepers
returns-clause-keepers c = keepers_row

pub returns-clause-moves : goal.returns-clause-moves
returns-clause-moves c = moves_row
