use Rattle.std.proofs.Common.{rules}
use Rattle.cpu_threads.proofs.machine_boot.booted_parts.Goals as goal

pub returns-in-Err : goal.returns-in-Err
returns-in-Err g c = search rules
