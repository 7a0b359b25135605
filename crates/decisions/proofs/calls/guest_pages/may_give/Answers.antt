use Rattle.std.proofs.Common.{◌+◌, ◌&&◌, sym, arith, ◌∙◌, below_more}
use Rattle.guest_component.specs.View.{guest_of}
use Rattle.page_state.specs.EntryTests.{is_free_page, is_unmapped}
use Rattle.table_tree.specs.View.{meaning}
use Rattle.decisions.proofs.Ranged.{all_hold, one_fails}
use Rattle.decisions.proofs.calls.guest_pages.may_give.Goals as goal

pub returns-then-not-may_give_page : goal.returns-then-not-may_give_page
returns-then-not-may_give_page g c =
    λ k. one_fails c.args.n c.loop-i.i
    (λ i. is_free_page (meaning c.args.shared.now.host.tree (c.args.pfn + i))
    && is_unmapped ((guest_of c.args.guest.now).tree.map (c.args.gfn + i))) c.loop-i-test.true
    (sym c.may_give_page.ensures ∙ c.if-not-may_give_page.true)

pub loop-i-preserved : goal.loop-i-preserved
loop-i-preserved g c = below_more _ _ c.loop-i.invariant (sym c.may_give_page.ensures ∙ c.if-not-may_give_page.false)

pub returns : goal.returns
returns g c = λ k. all_hold c.args.n _ (λ i less. c.loop-i.invariant i (omega (arith, c.loop-i-test.false)))
