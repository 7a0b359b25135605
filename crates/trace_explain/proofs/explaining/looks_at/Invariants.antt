use Rattle.std.proofs.Common.{◌≡◌, take, map}
use Rattle.trace_explain.specs.Looks.{text_at_place}
use Rattle.trace_explain.specs.View.{looks_in}
use Rattle.trace_text.specs.View.{machine_of}
use Rattle.trace_explain.proofs.explaining.looks_at.Given as goal

abbrev pub invariant-loop-place : goal.invariant-loop-place
invariant-loop-place g l =
    looks_in l.looks.items
    ≡ map (λ place. (place, text_at_place (machine_of l.world) l.cpu place)) (take l.place-index l.places)
