-- What workers carry may cross to another thread.
use denote.Hole.{as_row}
use denote.Param.Send.{IsSend, IsSync, sendable}
use denote.Param.SendFields.{declared_sync}
use denote.Struct.Field.{u64-field}
use Rattle.std.proofs.Crossing.{crosses}
use Rattle.call_table.specs.contracts.Reply as Reply
use Rattle.call_table.specs.contracts.Step as Step
use Rattle.cpu_threads.proofs.Crossing.{pass_send}
use Rattle.trace_race.specs.contracts.course.Asked as Asked
use Rattle.trace_race.specs.contracts.workers.Done as Done
use Rattle.trace_race.specs.contracts.workers.Worker as Worker

number_sync : IsSync (as_row u64-field)
number_sync = search (sendable, crosses) depth 40 fits 5000

step_sync : IsSync Step.the_row
step_sync = search (sendable, crosses) depth 40 fits 5000

pub reply_send : IsSend Reply.the_row
reply_send = search (sendable, crosses) depth 40 fits 5000

pub asked_sync : IsSync Asked.the_row
asked_sync = declared_sync Asked.the_type (number_sync, (number_sync, (step_sync, tt)))

pub done_send : IsSend Done.the_row
done_send = search (sendable, crosses, pass_send, reply_send) depth 60 fits 20000

pub worker_send : IsSend Worker.the_row
worker_send = search (sendable, crosses, pass_send, reply_send) depth 60 fits 20000
