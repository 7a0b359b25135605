use Rattle.std.proofs.Common.{ap, ◌∙◌}
use Rattle.std.specs.Prelude.{◌==◌}
use Rattle.c_states.specs.Lists.{runs_from_c, run_from_c}
use Rattle.c_states.proofs.Telling.{list_more}
use Rattle.c_states.specs.Known.{is_run}
use Rattle.c_states.proofs.ToldKnown.{run_known, known_more}
use Rattle.c_states.proofs.told.push_runs.Goals as goal

pub loop-i-preserved : goal.loop-i-preserved
loop-i-preserved c = (
  λ t.
      ap (λ xs. runs_from_c xs t) c.in_ok-push.ensures.items
      ∙ list_more (run_from_c t)
      (c.args.tree == t) c.args.told.now.items c.loop-i.told.items c.run_to_c.result c.args.runs.now c.loop-i.i _
      c.loop-i-test.true
      (c.loop-i.invariant.0 t) (c.run_to_c.ensures t),
  λ low known. known_more is_run c.loop-i.told.items c.push.new.self.items c.run_to_c.result c.in_ok-push.ensures.items
      (c.loop-i.invariant.1 low known) (run_known c.args.tree c.run_to_c.result _ c.run_to_c.ensures low),
)
