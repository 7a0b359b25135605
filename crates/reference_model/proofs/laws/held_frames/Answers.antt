use Rattle.reference_model.proofs.conditions.HeldFrames.{hand_stays, held_stays, run_held_stays}
use Rattle.reference_model.proofs.laws.held_frames.Goals as goal

pub returns-clause-stays : goal.returns-clause-stays
returns-clause-stays c = held_stays

pub returns-clause-run : goal.returns-clause-run
returns-clause-run c = run_held_stays

pub returns-clause-hand : goal.returns-clause-hand
returns-clause-hand c = hand_stays
