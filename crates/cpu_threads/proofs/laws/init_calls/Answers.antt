use Rattle.cpu_threads.proofs.InitCalls.{init_adds}
use Rattle.cpu_threads.proofs.laws.init_calls.Goals as goal

pub returns : goal.returns
returns c = init_adds
