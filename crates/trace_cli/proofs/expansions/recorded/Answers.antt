use Rattle.trace_text.proofs.ReplayLemmas.{mapped}
use Rattle.trace_values.specs.View.{expansion_in}
use Rattle.trace_cli.proofs.Expanded.{recorded_by}
use Rattle.trace_cli.proofs.expansions.recorded.Goals as goal

pub returns : goal.returns
returns g c =
    mapped c.put.result _ _
    (λ outcome ends. recorded_by _ c.in_ok-trace.trace.items c.as_slice.result.now
    (expansion_in c.in-Ok.expansion) outcome
    c.in_ok-trace.ensures c.as_slice.ensures.value c.in-Ok.ensures ends)
    c.put.ensures
