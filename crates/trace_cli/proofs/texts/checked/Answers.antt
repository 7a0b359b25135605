use Rattle.trace_cli.proofs.Checked.{checked_by}
use Rattle.trace_cli.proofs.texts.checked.Goals as goal

pub returns : goal.returns
returns g c =
    checked_by _ c.args.path.now c.in_ok-trace.trace.items c.as_slice.result.now c.in-Ok.checked _
    c.in_ok-trace.ensures c.as_slice.ensures.value c.in-Ok.ensures c.outcome_of_check.ensures
