use Rattle.std.proofs.Common.{◌+◌, ◌&&◌, sym, arith, ◌∙◌, below_more}
use Rattle.page_state.specs.EntryTests.{is_free_page, is_unmapped}
use Rattle.page_state.specs.Layouts.{hyp_page}
use Rattle.table_tree.specs.View.{meaning}
use Rattle.decisions.proofs.Ranged.{all_hold, one_fails}
use Rattle.decisions.proofs.calls.donate.may_donate.Goals as goal

pub returns-then-not-may_give : goal.returns-then-not-may_give
returns-then-not-may_give g c =
    λ k. one_fails c.args.n c.loop-i.i
    (λ i. is_free_page (meaning c.args.shared.now.host.tree (c.args.pfn + i))
    && is_unmapped (meaning c.args.shared.now.hyp.tree (hyp_page (c.args.pfn + i)))) c.loop-i-test.true
    (sym c.may_give.ensures ∙ c.if-not-may_give.true)

pub loop-i-preserved : goal.loop-i-preserved
loop-i-preserved g c = below_more _ _ c.loop-i.invariant (sym c.may_give.ensures ∙ c.if-not-may_give.false)

pub returns : goal.returns
returns g c = λ k. all_hold c.args.n _ (λ i less. c.loop-i.invariant i (omega (arith, c.loop-i-test.false)))
