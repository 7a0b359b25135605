use Rattle.std.proofs.Common.{rules, ◌≡◌, ◌∙◌}
use Rattle.hypercalls.specs.Stands.{parts_layout, state_of}
use Rattle.ghost_spec.specs.States.{ghost_state}
use Rattle.ghost_oracle.specs.Found.{walked_state}
use Rattle.ghost_oracle.proofs.Scratch.{if_ok}
use Rattle.world.proofs.WalkedState.{walked_is}
use Rattle.world.proofs.World.to_ghost.Goals as goal

pub returns-clause-walked : goal.returns-clause-walked
returns-clause-walked g c = let p = c.args.self.now.parts in
    if_ok (λ x. ghost_state x ≡ state_of p)
    (λ x. ghost_state x ≡ walked_state (parts_layout p) (state_of p)) c.kept.result
    (λ x h. h ∙ walked_is p c.args.self.now.history) c.kept.ensures.state

pub returns-clause-state : goal.returns-clause-state
returns-clause-state g c = c.kept.ensures.state

pub returns-clause-maplets : goal.returns-clause-maplets
returns-clause-maplets g c = search rules

pub returns-clause-rows : goal.returns-clause-rows
returns-clause-rows g c = c.kept.ensures.rows
