use Rattle.cpu_threads.proofs.Growing.{seen_grows, takes_each}
use Rattle.cpu_threads.proofs.Stopping.{stops_at_another, stops_at_full_log}
use Rattle.cpu_threads.proofs.laws.tries.Goals as goal

pub returns-clause-grows : goal.returns-clause-grows
returns-clause-grows c = seen_grows

pub returns-clause-takes : goal.returns-clause-takes
returns-clause-takes c = takes_each

pub returns-clause-met : goal.returns-clause-met
returns-clause-met c = stops_at_another

pub returns-clause-full : goal.returns-clause-full
returns-clause-full c = stops_at_full_log
