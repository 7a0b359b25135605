use Rattle.std.proofs.Common.{arith, subst}
use Rattle.image_dump.specs.Dumped.{AreCollected}
use Rattle.image_dump.proofs.Collected.{more_collected, none_collected, one_fault, taken_all}
use Rattle.image_dump.proofs.dump.collect.Goals as goal

pub overflow_add-unwalked : goal.overflow_add-unwalked
overflow_add-unwalked g c =
    let one =
    one_fault (g.I.ImageBytes.bytes c.args.image.now)
    (g.I.ImageBytes.may_fail c.args.image.now) c.args.segments.now c.args.records.now c.args.skips.now _ c.loop-i.all
    c.add_root.new.all c.in_ok-unwalked.field-0 c.in_ok-unwalked.ensures.added in
    omega (arith, one, c.loop-i.invariant.few, c.loop-i-test.true, c.requires.few)

pub loop-i-init : goal.loop-i-init
loop-i-init g c = record {
  all_so_far =
      none_collected (g.I.ImageBytes.bytes c.args.image.now)
      (g.I.ImageBytes.may_fail c.args.image.now) c.args.segments.now c.args.records.now c.args.skips.now
      c.args.roots.now c.args.all.now;
  few = omega arith;
}

pub loop-i-preserved : goal.loop-i-preserved
loop-i-preserved g c =
    let one =
    one_fault (g.I.ImageBytes.bytes c.args.image.now)
    (g.I.ImageBytes.may_fail c.args.image.now) c.args.segments.now c.args.records.now c.args.skips.now _ c.loop-i.all
    c.add_root.new.all c.in_ok-unwalked.field-0 c.in_ok-unwalked.ensures.added in
    record {
      all_so_far =
          more_collected (g.I.ImageBytes.bytes c.args.image.now)
          (g.I.ImageBytes.may_fail c.args.image.now) c.args.segments.now c.args.records.now c.args.skips.now
          c.args.roots.now c.loop-i.i _ c.args.all.now c.loop-i.all c.add_root.new.all c.loop-i.unwalked
          c.in_ok-unwalked.field-0 c.loop-i-test.true
          c.loop-i.invariant.all_so_far c.in_ok-unwalked.ensures.added;
      few = omega (arith, one, c.loop-i.invariant.few);
    }

pub returns-clause-few : goal.returns-clause-few
returns-clause-few g c = omega (arith, c.loop-i.invariant.few, c.loop-i.auto.i-end)

pub returns-clause-collected : goal.returns-clause-collected
returns-clause-collected g c =
    subst
    (λ rs. AreCollected (g.I.ImageBytes.bytes c.args.image.now)
    (g.I.ImageBytes.may_fail c.args.image.now) c.args.segments.now c.args.records.now rs c.args.skips.now
    c.args.all.now c.loop-i.all c.loop-i.unwalked)
    (taken_all c.args.roots.now c.loop-i.i c.loop-i-test.false) c.loop-i.invariant.all_so_far
