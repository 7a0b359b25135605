-- The parts of the reference state that code's guests and VM slots represent.
use Rattle.ghost_spec.specs.States.{phase_in, stand_in}
use Rattle.state_changes.specs.declared.heads.GuestHead.{GuestHead as CodeGuest}
use Rattle.state_changes.specs.declared.heads.SlotHead.{SlotHead as CodeSlot}
use Rattle.state_changes.specs.Texts.{GuestHead, SlotHead}

abbrev pub guest_told : CodeGuest → GuestHead
guest_told h =
    record { phase = phase_in h.phase; generation = h.generation; kind = h.kind; free = h.free }

abbrev pub slot_told : CodeSlot → SlotHead
slot_told h =
    record { stand = stand_in h.stand; generation = h.generation; kind = h.kind; vcpus = h.vcpus }
