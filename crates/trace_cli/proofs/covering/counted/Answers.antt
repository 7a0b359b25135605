use Rattle.trace_cli.proofs.Together.{of_bytes}
use Rattle.trace_cli.proofs.covering.counted.Goals as goal

pub returns : goal.returns
returns g c =
    let all = c.in-Ok.ensures in (
      all.steps,
      of_bytes c.args.path.now _ c.in_ok-trace.trace.items c.as_slice.result.now all.steps all.text _
          c.in_ok-trace.ensures c.as_slice.ensures.value all.counts,
      all.seen,
    )
