use Rattle.std.proofs.Common.{take}
use Rattle.ghost_legal.specs.Listed.{runs_held}
use Rattle.ghost_legal.proofs.Listed.{runs_more, next_behind}
use Rattle.ghost_legal.proofs.held.add_runs.Goals as goal

pub loop-i-preserved : goal.loop-i-preserved
loop-i-preserved c =
    next_behind c.args.held.now.items c.loop-i.held.items c.add_run.new.held.items _
    (λ n. runs_held c.args.slot (take n c.args.runs.now)) c.loop-i.i c.loop-i.invariant c.in_ok-add_run.ensures
    (runs_more c.args.slot c.args.runs.now c.loop-i.i _ c.loop-i-test.true)
