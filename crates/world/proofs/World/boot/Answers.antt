use Rattle.hypercalls.proofs.AtBoot.{at_boot}
use Rattle.world.proofs.World.boot.Goals as goal

pub invariant_of-result : goal.invariant_of-result
invariant_of-result g c =
    record { history = ∣ at_boot c.args.map.now c.args.config c.in_ok-parts.parts c.in_ok-parts.ensures ∣₁ }
