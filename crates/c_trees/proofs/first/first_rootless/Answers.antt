use Rattle.std.proofs.Common.{arith, subst, sym, rules}
use Rattle.std.specs.Prelude.{All, MatchOption}
use Rattle.std.proofs.lemmas.List.{take_all}
use Rattle.std.proofs.lemmas.List.Elements.{All-more}
use Rattle.c_trees.specs.Roots.{HasPages, IsGoodRoot, IsRootFault}
use Rattle.c_trees.proofs.first.first_rootless.Goals as goal

pub loop-i-preserved : goal.loop-i-preserved
loop-i-preserved c k d l =
    All-more (HasPages c.args.pages.now) c.args.roots.now c.loop-i.i _ c.loop-i-test.true c.loop-i.invariant
    (c.has_pages.ensures.0 c.if-not-has_pages.false) k d l

pub returns-clause-none : goal.returns-clause-none
returns-clause-none c e =
    subst (All (HasPages c.args.pages.now))
    (take_all c.loop-i.i c.args.roots.now (omega (arith, c.loop-i-test.false))) c.loop-i.invariant
