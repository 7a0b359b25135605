use Rattle.walked_tables.proofs.OwnPages.{plain_walk}
use Rattle.walked_tables.proofs.OwnOrder.{plain_order}
use Rattle.walked_tables.proofs.laws.own_words.Goals as goal

pub returns-clause-pages : goal.returns-clause-pages
returns-clause-pages c = plain_walk

pub returns-clause-tables : goal.returns-clause-tables
returns-clause-tables c = plain_order
