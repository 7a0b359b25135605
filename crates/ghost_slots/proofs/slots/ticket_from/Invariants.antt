use Rattle.std.proofs.Common.{ℕ, ◌<◌, ◌≤◌}
use Rattle.reference_model.specs.claims.Sound.{HasTicket}
use Rattle.ghost_spec.specs.States.{contents_in}
use Rattle.ghost_slots.proofs.slots.ticket_from.Given as goal

abbrev pub invariant-loop-cpu : goal.invariant-loop-cpu
invariant-loop-cpu l = (d : ℕ) → l.from ≤ d → d < l.cpu → HasTicket (contents_in l.state) l.slot d → ⊥
