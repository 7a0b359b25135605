use Rattle.reference_model.proofs.Boot.{boot_sound}
use Rattle.reference_model.proofs.laws.boot_sound.Goals as goal

pub returns : goal.returns
returns c = boot_sound
