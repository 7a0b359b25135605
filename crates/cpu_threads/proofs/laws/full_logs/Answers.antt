use Rattle.cpu_threads.proofs.Full.{full_logs_stay}
use Rattle.cpu_threads.proofs.laws.full_logs.Goals as goal

pub returns : goal.returns
returns g c = full_logs_stay g.row.A.Denot
