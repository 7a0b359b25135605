use Rattle.std.proofs.Common.{◌+◌, sym, arith, ◌∙◌, below_more}
use Rattle.ghost_spec.specs.Used.{may_return_frame}
use Rattle.ghost_spec.specs.Views.{shared_in_lists}
use Rattle.ghost_trees.proofs.Searches.{all_below_true, all_below_false}
use Rattle.ghost_spec.proofs.rules.may_return_all.Goals as goal

pub returns-then-not-may_return : goal.returns-then-not-may_return
returns-then-not-may_return c =
    sym
    (all_below_false c.args.n c.loop-i.i
    (λ i. may_return_frame (shared_in_lists c.args.shared.now) (c.args.pfn + i)) c.loop-i-test.true
    (sym c.may_return.ensures ∙ c.if-not-may_return.true))

pub loop-i-preserved : goal.loop-i-preserved
loop-i-preserved c = below_more _ _ c.loop-i.invariant (sym c.may_return.ensures ∙ c.if-not-may_return.false)

pub returns : goal.returns
returns c =
    sym
    (all_below_true c.args.n (λ i. may_return_frame (shared_in_lists c.args.shared.now) (c.args.pfn + i))
    (λ i less. c.loop-i.invariant i (omega (arith, c.loop-i-test.false))))
