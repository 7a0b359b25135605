use Rattle.std.proofs.Common.{◌≡◌, ◌<◌, subst, length, get_or}
use Rattle.std.specs.Prelude.{None}
use Rattle.race_outcomes.proofs.Found.{none_at}
use Rattle.race_outcomes.proofs.finding.whole.Goals as goal

pub returns-in-None : goal.returns-in-None
returns-in-None c rs e =
    none_at rs c.loop-i.i (subst (λ ts. c.loop-i.i < length ts) e c.loop-i-test.true)
    (subst (λ ts. get_or ts c.loop-i.i None ≡ None) e c.in-None.is)
