use Rattle.trace_race.proofs.OneCpu.{one_cpu_runs}
use Rattle.trace_race.proofs.laws.one_cpu.Goals as goal

pub returns : goal.returns
returns c = one_cpu_runs
