use Rattle.trace_race.specs.declared.workers.Done.{Done}
use Rattle.trace_race.proofs.Made.{put_more}
use Rattle.trace_race.proofs.making.passes_of.Goals as goal

pub loop-one-preserved : goal.loop-one-preserved
loop-one-preserved c = record {
  next = tt;
  finite = tt;
  all =
      put_more
      (λ (d : Done). d.pass) c.loop-one.passes.items c.push.new.self.items c.in-Some.one _ _ _
      c.in_ok-push.ensures.items c.in-Some.ensures.steps.0 c.loop-one.invariant.all;
}
