use Rattle.std.proofs.Common.{◌∙◌, sym, ap}
use Rattle.reference_model.specs.model.State.{Reference}
use Rattle.ghost_oracle.proofs.Comparing.{none_differs}
use Rattle.world.proofs.WalkedState.{walked_is}
use Rattle.world.proofs.World.audit.Goals as goal

pub returns-clause-none : goal.returns-clause-none
returns-clause-none g c = let p = c.args.self.now.parts in
    c.audit-found.ensures.none.1
    (none_differs _ _
    (ap (λ (s : Reference). s.contents)
    (c.in_ok-compared.ensures.compared.state ∙ walked_is p c.args.self.now.history
    ∙ sym c.in_ok-compared.ensures.compared.walked)))
