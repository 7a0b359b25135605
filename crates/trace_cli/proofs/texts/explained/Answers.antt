use Rattle.trace_cli.proofs.Explained.{explained_by}
use Rattle.trace_cli.proofs.texts.explained.Goals as goal

pub returns : goal.returns
returns g c =
    explained_by _ c.args.path.now c.args.line c.in_ok-trace.trace.items c.as_slice.result.now
    c.in-Ok.explained.text.items c.in-Ok.explained.outcome c.in_ok-trace.ensures c.as_slice.ensures.value
    c.in-Ok.ensures
