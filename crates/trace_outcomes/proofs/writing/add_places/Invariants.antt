use Rattle.std.proofs.Common.{◌≡◌, ◌++◌, drop}
use Rattle.trace_outcomes.specs.Texts.{places_text}
use Rattle.trace_outcomes.proofs.writing.add_places.Given as goal

abbrev pub invariant-loop-place : goal.invariant-loop-place
invariant-loop-place l =
    l.text.items ++ places_text l.steps (drop l.place-index l.order) ≡ l.fn.text.items ++ places_text l.steps l.order
