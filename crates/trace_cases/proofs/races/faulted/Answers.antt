use Rattle.std.proofs.Common.{arith}
use Rattle.trace_cases.proofs.Filling.{fault_here, fault_next}
use Rattle.trace_cases.proofs.races.faulted.Goals as goal

pub returns-then-number-at-clause-told : goal.returns-then-number-at-clause-told
returns-then-number-at-clause-told c =
    fault_here (λ reported. reported.items)
    (λ line. line.now) c.args.lines.now c.loop-place.place c.loop-place-test.true _ _ _ c.in_ok-push.ensures.items
    _ c.args.at c.args.fault c.loop-place.invariant.told c.if-number-at.true
    c.in_ok-from_slice.ensures.items

pub loop-place-preserved : goal.loop-place-preserved
loop-place-preserved c = record {
  told =
      fault_next (λ reported. reported.items)
      (λ line. line.now) c.args.lines.now c.loop-place.place c.loop-place-test.true _ _ _
      c.in_ok-push-2.ensures.items _ c.args.at c.args.fault c.loop-place.invariant.told c.if-number-at.false
      c.new.ensures.items;
  count = omega (arith, c.in_ok-push-2.ensures.len, c.loop-place.invariant.count);
}
