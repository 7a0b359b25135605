use Rattle.ghost_sound.proofs.LegalMaps.{legal_is_sound}
use Rattle.ghost_sound.proofs.laws.legal_is_sound.Goals as goal

pub returns : goal.returns
returns c = legal_is_sound
