-- Changes that grow no tree.
use Rattle.std.specs.Prelude.{◌≡◌, false, None}
use Rattle.call_table.specs.declared.step.Step.{Step}
use Rattle.guest_component.specs.Wants.{MakesNone}
use Rattle.reference_model.specs.declared.changes.Changes.{Changes}
use Rattle.reference_model.specs.model.Rules.{may_grow}

-- a step that takes no memory changes no map, and makes no guest
abbrev pub GrowsOnly : Step → Changes → Type 0
GrowsOnly step h =
    may_grow step ≡ false → (h.host ≡ None) × (h.hyp ≡ None) × (h.guest ≡ None) × MakesNone h.part
