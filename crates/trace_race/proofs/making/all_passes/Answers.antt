use Rattle.std.proofs.Common.{arith, ◌+◌, ◌∙◌, subst, sym}
use Rattle.trace_race.specs.Made.{AreFirstPasses}
use Rattle.trace_race.proofs.Made.{pass_given, passes_next}
use Rattle.trace_race.proofs.making.all_passes.Goals as goal

pub loop-cpu-preserved : goal.loop-cpu-preserved
loop-cpu-preserved c =
    let i = c.loop-cpu.invariant in
    let less = c.loop-cpu-test.true in
    let here = i.left c.loop-cpu.cpu (omega (arith)) (omega (arith, less)) in
    let was = (c.pass.ensures.hands.there (omega (arith, i.count, less))).0 in
    let is =
    pass_given c.args.machine.now.table c.loop-cpu.cpu c.pass.result c.unwrap-pass.result _
    (sym here ∙ was) c.unwrap-pass.ensures in
    record {
      table = c.pass.ensures.table ∙ i.table;
      count = c.pass.ensures.hands.count ∙ i.count;
      left =
          λ k more few. c.pass.ensures.hands.others k (λ e. omega (arith, e, more))
          ∙ i.left k (omega (arith, more)) few;
      passes =
          subst (AreFirstPasses c.args.machine.now.table (c.loop-cpu.cpu + 1)) (sym c.in_ok-push.ensures.items)
          (passes_next c.args.machine.now.table c.loop-cpu.cpu c.loop-cpu.passes.items c.unwrap-pass.result
          i.passes is);
    }
