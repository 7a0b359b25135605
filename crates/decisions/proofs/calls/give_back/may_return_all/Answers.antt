use Rattle.std.proofs.Common.{◌+◌, sym, arith, ◌∙◌, below_more}
use Rattle.part_types.specs.View.{shared_of}
use Rattle.reference_model.specs.model.SharedRules.{may_return}
use Rattle.reference_model.specs.model.Used.{used_alone}
use Rattle.decisions.proofs.Ranged.{all_hold, one_fails}
use Rattle.decisions.proofs.calls.give_back.may_return_all.Goals as goal

pub returns-then-not-may_return : goal.returns-then-not-may_return
returns-then-not-may_return g c =
    λ k. one_fails c.args.n c.loop-i.i
    (λ i. may_return (used_alone (shared_of c.args.shared.now) k) (c.args.pfn + i)) c.loop-i-test.true
    (sym (c.may_return.ensures k) ∙ c.if-not-may_return.true)

pub loop-i-preserved : goal.loop-i-preserved
loop-i-preserved g c = below_more _ _ c.loop-i.invariant (λ k. sym (c.may_return.ensures k) ∙ c.if-not-may_return.false)

pub returns : goal.returns
returns g c = λ k. all_hold c.args.n _ (λ i less. c.loop-i.invariant i (omega (arith, c.loop-i-test.false)) k)
