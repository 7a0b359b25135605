use Rattle.ghost_sound.proofs.Telling.{sound_else}
use Rattle.ghost_sound.proofs.laws.sound_else.Goals as goal

pub returns : goal.returns
returns c = sound_else
