use Rattle.std.proofs.Common.{refl}
use Rattle.trace_cli.proofs.Outcomes.{order_by}
use Rattle.trace_cli.proofs.texts.order_reported.Goals as goal

pub returns : goal.returns
returns g c =
    order_by _ _ _ _ c.in_ok-trace.trace.items c.as_slice.result.now c.in_ok-report.report.items
    c.as_slice-2.result.now c.in-Ok.told _ c.in_ok-trace.ensures c.as_slice.ensures.value c.in_ok-report.ensures
    c.as_slice-2.ensures.value
    c.in-Ok.ensures refl
