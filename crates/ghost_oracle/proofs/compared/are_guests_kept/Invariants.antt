use Rattle.std.proofs.Common.{◌≡◌, map, take}
use Rattle.guest_component.specs.View.{runs_of}
use Rattle.ghost_oracle.proofs.compared.are_guests_kept.Given as goal

abbrev pub invariant-loop-v : goal.invariant-loop-v
invariant-loop-v g l =
    map (λ x. x.tree.runs.items) (take l.v l.found) ≡ map (λ x. runs_of x.guest.body) (take l.v l.parts)
