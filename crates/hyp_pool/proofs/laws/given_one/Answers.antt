use Rattle.hyp_pool.proofs.Given.{given_length, given_count, given_contains}
use Rattle.hyp_pool.proofs.laws.given_one.Goals as goal

pub returns-clause-length : goal.returns-clause-length
returns-clause-length c = given_length

pub returns-clause-count : goal.returns-clause-count
returns-clause-count c = given_count

pub returns-clause-contains : goal.returns-clause-contains
returns-clause-contains c = given_contains
