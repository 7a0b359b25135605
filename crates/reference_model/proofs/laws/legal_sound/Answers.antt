use Rattle.std.proofs.Math.Logic.{∥∥₁_map}
use Rattle.reference_model.proofs.conditions.SoundOf.{legal_sound}
use Rattle.reference_model.proofs.conditions.SoundOnce.{sound_once}
use Rattle.reference_model.proofs.laws.legal_sound.Goals as goal

pub returns : goal.returns
returns c =
    record {
      legal = legal_sound;
      known = λ l s usable somehow. sound_once l s (∥∥₁_map somehow (λ legal. (usable, legal)));
    }
