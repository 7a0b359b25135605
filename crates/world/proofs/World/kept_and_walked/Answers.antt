use Rattle.std.proofs.Common.{◌≡◌, ◌∙◌, sym}
use Rattle.ghost_spec.specs.States.{ghost_state}
use Rattle.ghost_oracle.specs.Compared.{IsCompared, walked_in}
use Rattle.ghost_oracle.proofs.Scratch.{if_ok}
use Rattle.world.proofs.WalkedState.{walked_is}
use Rattle.world.proofs.World.kept_and_walked.Goals as goal

pub returns-clause-same : goal.returns-clause-same
returns-clause-same g c =
    let p = c.args.self.now.parts in
    if_ok (IsCompared p) (λ x. ghost_state (walked_in x) ≡ ghost_state x.kept) c.kept_and_walked.result
    (λ x e. e.walked ∙ sym (e.state ∙ walked_is p c.args.self.now.history)) c.kept_and_walked.ensures.compared

pub returns-clause-compared : goal.returns-clause-compared
returns-clause-compared g c = c.kept_and_walked.ensures.compared
