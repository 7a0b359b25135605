use Rattle.trace_text.proofs.ReplayLemmas.{mapped}
use Rattle.trace_race.specs.Booted.{machine_in}
use Rattle.trace_outcomes.proofs.telling.order_from.Goals as goal

pub returns-in-Ok : goal.returns-in-Ok
returns-in-Ok g c =
    mapped c.order_in.result _ _ (λ t tells. tells (machine_in c.args.state) c.in-Ok.ensures.made) c.order_in.ensures
