use Rattle.std.proofs.Common.{subst}
use Rattle.trace_values.specs.Steps.{IsNext}
use Rattle.trace_values.proofs.Turns.{leads_on}
use Rattle.trace_values.proofs.expanding.all_put.Goals as goal

pub loop-turn-preserved : goal.loop-turn-preserved
loop-turn-preserved g c =
    let A = g.row.A.Denot in
    let old = c.loop-turn.text.items in
    let put = subst (λ t. IsNext A t c.in_ok-next_put.field-0) c.as_slice.ensures.value c.in_ok-next_put.ensures in
    let next = subst (IsNext A old) c.in-Text.is put in
    leads_on A c.args.trace.now old next.0 c.in-Text.new.items c.loop-turn.invariant next.1
