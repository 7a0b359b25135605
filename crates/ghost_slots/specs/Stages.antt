-- The stage of a slot and the phase of its guest, by a ticket's stage.
use Rattle.std.specs.Prelude.{◌≡◌}
use Rattle.reference_model.specs.declared.changes.Stage.{Stage}
use Rattle.reference_model.specs.declared.changes.Stage.TheVariants.{Booked, Installed, Closing, Dying, Finished}
use Rattle.reference_model.specs.model.State.{Phase, empty, live, dying, Stand, reserved, closing}

abbrev pub StandOn : Stage → Stand → Type 0
StandOn Booked stand = stand ≡ reserved
StandOn Installed stand = stand ≡ reserved
StandOn Closing stand = stand ≡ closing
StandOn Dying stand = stand ≡ closing
StandOn Finished stand = stand ≡ closing

abbrev pub PhaseOn : Stage → Phase → Type 0
PhaseOn Booked phase = phase ≡ empty
PhaseOn Installed phase = phase ≡ live
PhaseOn Closing phase = phase ≡ live
PhaseOn Dying phase = phase ≡ dying
PhaseOn Finished phase = phase ≡ empty
