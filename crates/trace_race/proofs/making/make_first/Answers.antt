use Rattle.std.proofs.Common.{arith, ◌∙◌, refl, sym}
use Rattle.trace_race.proofs.Begun.{below_as, run_all, run_first, run_next}
use Rattle.trace_race.proofs.making.make_first.Goals as goal

pub loop-i-init : goal.loop-i-init
loop-i-init c =
    record {
      layout = refl;
      made = run_first c.args.world.now.parts c.args.steps.now c.args.replies.now.items c.requires.none;
    }

pub step-reply-requires : goal.step-reply-requires
step-reply-requires c =
    record {
      known = below_as _ c.args.world.now.parts.layout c.loop-i.world.parts.layout
          (sym c.loop-i.invariant.layout) (c.requires.below c.loop-i.i _ c.loop-i-test.true);
    }

pub loop-i-preserved : goal.loop-i-preserved
loop-i-preserved c =
    let i = c.loop-i.invariant in
    record {
      layout = c.step-reply.ensures.layout ∙ i.layout;
      made =
          run_next c.args.world.now.parts c.loop-i.world.parts c.step-reply.new.self.parts c.args.steps.now c.loop-i.i
          _ c.loop-i.replies.items c.push.new.self.items c.step-reply.result c.loop-i-test.true i.layout
          (c.requires.below c.loop-i.i _ c.loop-i-test.true) c.step-reply.ensures.step
          c.in_ok-push.ensures.items i.made;
    }

pub returns : goal.returns
returns c =
    run_all c.args.world.now.parts c.loop-i.world.parts c.args.steps.now c.loop-i.i c.loop-i.replies.items
    (omega (arith, c.loop-i-test.false)) c.loop-i.invariant.made
