use Rattle.std.proofs.Common.{◌≡◌, arith, subst, Option, Some, None}
use Rattle.std.specs.Prelude.{All, MatchOption}
use Rattle.std.proofs.lemmas.List.{take_all}
use Rattle.std.proofs.lemmas.List.Elements.{All-more}
use Rattle.c_trees.specs.declared.root.PlainRoot.{PlainRoot}
use Rattle.c_trees.specs.declared.root.RootFault.{RootFault}
use Rattle.c_trees.specs.Roots.{IsGoodRoot, IsRootFault}
use Rattle.c_trees.proofs.first.first_bad.Goals as goal

good : (r : PlainRoot) (o : Option RootFault) → o ≡ None → MatchOption o (IsGoodRoot r) (IsRootFault r) → IsGoodRoot r
good r None e h = h
good r (Some f) e h = absurd (cc)

pub loop-i-preserved : goal.loop-i-preserved
loop-i-preserved c k d l =
    All-more IsGoodRoot c.args.roots.now c.loop-i.i _ c.loop-i-test.true c.loop-i.invariant
    (good _ _ c.in_default.is c.root_fault.ensures) k d l

pub returns-clause-none : goal.returns-clause-none
returns-clause-none c e =
    subst (All IsGoodRoot)
    (take_all c.loop-i.i c.args.roots.now (omega (arith, c.loop-i-test.false))) c.loop-i.invariant
