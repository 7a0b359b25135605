use Rattle.std.proofs.Common.{sym, subst}
use Rattle.hypercalls.specs.Stands.{HasHistory}
use Rattle.world.proofs.World.poke.Goals as goal

pub invariant_of-result : goal.invariant_of-result
invariant_of-result g c =
    record { history = subst (λ p. ∥ HasHistory p ∥₁) (sym c.in-Err.ensures.kept) c.args.self.history }

pub returns-in-Ok-clause-poked : goal.returns-in-Ok-clause-poked
returns-in-Ok-clause-poked g c = c.in-Ok.ensures.poked
