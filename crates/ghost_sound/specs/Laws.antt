-- Laws of legal states and of sound states.
use Rattle.page_state.specs.Layouts.{Layout}
use Rattle.reference_model.specs.help.Conditions.{IsUsable, Legal}
use Rattle.reference_model.specs.model.State.{Contents}
use Rattle.ghost_sound.specs.declared.finding.Unsound.{Unsound}
use Rattle.ghost_sound.specs.Sound.{IsSound, IsUnsound}

-- the maps of a legal state are sound
abbrev pub LegalIsSound : Type 0
LegalIsSound = (l : Layout) (s : Contents) → Legal l s → IsUsable l → IsSound s

-- a sound state has no finding
abbrev pub SoundElse : Type 0
SoundElse = (s : Contents) (why : Unsound) → IsSound s → IsUnsound s why → ⊥
