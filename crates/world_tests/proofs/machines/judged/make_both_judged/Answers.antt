use Rattle.std.proofs.Crossing.{crosses}
use denote.Param.Send.{sendable}
use Rattle.cpu_threads.proofs.Crossing.{pass_send, machine_sync}
use Rattle.world_tests.proofs.machines.judged.make_both_judged.Goals as goal

pub join-requires-send-F : goal.join-requires-send-F
join-requires-send-F g c κs within = search (sendable, crosses, pass_send, machine_sync) depth 40 fits 4000
