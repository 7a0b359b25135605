use Rattle.reference_model.proofs.RunRows.{life_begins, life_ends, life_tables, plain_life}
use Rattle.reference_model.proofs.rows.run_rows.Goals as goal

pub returns-clause-life_begins : goal.returns-clause-life_begins
returns-clause-life_begins c = life_begins

pub returns-clause-life_ends : goal.returns-clause-life_ends
returns-clause-life_ends c = life_ends

pub returns-clause-life_tables : goal.returns-clause-life_tables
returns-clause-life_tables c = life_tables

pub returns-clause-plain_life : goal.returns-clause-plain_life
returns-clause-plain_life c = plain_life
