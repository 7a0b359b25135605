use Rattle.std.proofs.Common.{arith}
use Rattle.trace_cases.proofs.Filling.{silence_next}
use Rattle.trace_cases.proofs.races.add_silences.Goals as goal

pub loop-line-preserved : goal.loop-line-preserved
loop-line-preserved c = record {
  told =
      silence_next (λ reported. reported.items)
      (λ line. line.now) c.args.lines.now c.loop-line.line-index c.loop-line-test.true _ _ _
      c.in_ok-push.ensures.items _ c.new.ensures.items c.loop-line.invariant.told;
  count = omega (arith, c.in_ok-push.ensures.len, c.loop-line.invariant.count);
}
