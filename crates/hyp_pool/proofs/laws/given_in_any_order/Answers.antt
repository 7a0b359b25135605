use Rattle.hyp_pool.proofs.Given.{given_swap}
use Rattle.hyp_pool.proofs.Counts.{given_counted, given_append}
use Rattle.hyp_pool.proofs.laws.given_in_any_order.Goals as goal

pub returns-clause-swap : goal.returns-clause-swap
returns-clause-swap c = given_swap

pub returns-clause-counted : goal.returns-clause-counted
returns-clause-counted c = given_counted

pub returns-clause-append : goal.returns-clause-append
returns-clause-append c = given_append
