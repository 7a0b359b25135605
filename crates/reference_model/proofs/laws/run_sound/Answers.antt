use Rattle.reference_model.proofs.conditions.RunsLegal.{run_sound, run_rows}
use Rattle.reference_model.proofs.laws.run_sound.Goals as goal

pub returns-clause-sound : goal.returns-clause-sound
returns-clause-sound c = run_sound

pub returns-clause-rows : goal.returns-clause-rows
returns-clause-rows c = run_rows
