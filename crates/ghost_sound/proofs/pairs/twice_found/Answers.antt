use Rattle.std.proofs.Common.{subst, arith}
use Rattle.std.specs.Prelude.{All}
use Rattle.ghost_sound.specs.inner.Leaves.{runs_in}
use Rattle.ghost_sound.specs.inner.Pairs.{MeetsNone}
use Rattle.ghost_sound.proofs.Loops.{below_more}
use Rattle.ghost_sound.proofs.pairs.twice_found.Goals as goal

pub loop-tree-preserved : goal.loop-tree-preserved
loop-tree-preserved c =
    below_more
    (λ u. All (MeetsNone c.args.side c.args.state.now u) (runs_in c.args.state.now u)) c.loop-tree.tree
    c.loop-tree.invariant
    (subst
    (All (MeetsNone c.args.side c.args.state.now c.loop-tree.tree)) c.runs_of.ensures.value
    c.in_default.ensures)

pub returns : goal.returns
returns c = λ u h. c.loop-tree.invariant u (omega (arith, h, c.loop-tree-test.false))
