use Rattle.std.proofs.Common.{refl}
use Rattle.trace_cli.proofs.Outcomes.{outcomes_by}
use Rattle.trace_cli.proofs.texts.outcomes_reported.Goals as goal

pub returns : goal.returns
returns g c =
    outcomes_by _ _ c.in_ok-trace.trace.items c.as_slice.result.now c.in-Ok.told _ c.in_ok-trace.ensures
    c.as_slice.ensures.value c.in-Ok.ensures refl
