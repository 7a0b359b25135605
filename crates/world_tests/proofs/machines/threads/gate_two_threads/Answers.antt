use Rattle.std.proofs.Crossing.{crosses}
use denote.Param.Send.{sendable}
use Rattle.cpu_threads.proofs.Crossing.{pass_send, machine_sync}
use Rattle.world_tests.proofs.machines.threads.gate_two_threads.Goals as goal

pub join-first-requires-send-F : goal.join-first-requires-send-F
join-first-requires-send-F g c κs within = search (sendable, crosses, pass_send, machine_sync) depth 40 fits 4000
