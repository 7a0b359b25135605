use Rattle.std.proofs.Common.{arith, subst}
use Rattle.std.specs.Prelude.{All}
use Rattle.std.proofs.lemmas.List.{take_all}
use Rattle.std.proofs.lemmas.List.Elements.{All-more}
use Rattle.c_trees.specs.Given.{IsKnown}
use Rattle.c_trees.proofs.first.first_strange.Goals as goal

pub loop-i-preserved : goal.loop-i-preserved
loop-i-preserved c k d l =
    All-more IsKnown c.args.roots.now c.loop-i.i _ c.loop-i-test.true c.loop-i.invariant
    (c.is_tree.ensures.0 c.if-not-is_tree.false) k d l

pub returns-clause-none : goal.returns-clause-none
returns-clause-none c e =
    subst (All IsKnown) (take_all c.loop-i.i c.args.roots.now (omega (arith, c.loop-i-test.false))) c.loop-i.invariant
