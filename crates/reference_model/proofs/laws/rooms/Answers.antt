use Rattle.reference_model.proofs.RoomLaws.{stored_falls, run_rooms}
use Rattle.reference_model.proofs.laws.rooms.Goals as goal

pub returns-clause-falls : goal.returns-clause-falls
returns-clause-falls c = stored_falls

pub returns-clause-told : goal.returns-clause-told
returns-clause-told c = run_rooms
