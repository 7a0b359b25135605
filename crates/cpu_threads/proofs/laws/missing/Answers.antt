use Rattle.cpu_threads.proofs.InitCalls.{missing_one}
use Rattle.cpu_threads.proofs.laws.missing.Goals as goal

pub returns : goal.returns
returns c = missing_one
