use Rattle.std.proofs.Common.{subst, arith}
use Rattle.std.specs.Prelude.{All}
use Rattle.ghost_sound.specs.inner.Leaves.{runs_in}
use Rattle.ghost_sound.specs.inner.Pairs.{AreOne}
use Rattle.ghost_sound.proofs.Loops.{below_more}
use Rattle.ghost_sound.proofs.pairs.meeting_any.Goals as goal

pub loop-other-preserved : goal.loop-other-preserved
loop-other-preserved c =
    below_more
    (λ u. All (AreOne c.args.side c.args.tree c.args.run u) (runs_in c.args.state.now u)) c.loop-other.other
    c.loop-other.invariant
    (subst
    (All (AreOne c.args.side c.args.tree c.args.run c.loop-other.other)) c.runs_of.ensures.value
    c.in_default.ensures)

pub returns : goal.returns
returns c = λ u h. c.loop-other.invariant u (omega (arith, h, c.loop-other-test.false))
