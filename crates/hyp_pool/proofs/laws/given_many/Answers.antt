use Rattle.hyp_pool.proofs.Counts.{all_given_length, all_given_count}
use Rattle.hyp_pool.proofs.laws.given_many.Goals as goal

pub returns-clause-length : goal.returns-clause-length
returns-clause-length c = all_given_length

pub returns-clause-count : goal.returns-clause-count
returns-clause-count c = all_given_count
