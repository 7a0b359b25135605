use Rattle.std.proofs.Common.{◌+◌, ◌&&◌, sym, arith, ◌∙◌, below_more}
use Rattle.page_state.specs.EntryTests.{is_free_page, is_unmapped}
use Rattle.page_state.specs.Layouts.{hyp_page}
use Rattle.page_state.specs.Runs.{map_of}
use Rattle.ghost_trees.proofs.Searches.{all_below_true, all_below_false}
use Rattle.ghost_spec.proofs.rules.may_donate.Goals as goal

pub returns-then-not-may_donate_frame : goal.returns-then-not-may_donate_frame
returns-then-not-may_donate_frame c =
    sym
    (all_below_false c.args.n c.loop-i.i
    (λ i. is_free_page (map_of c.args.shared.now.host.runs.items (c.args.pfn + i))
    && is_unmapped (map_of c.args.shared.now.hyp.runs.items (hyp_page (c.args.pfn + i)))) c.loop-i-test.true
    (sym c.may_donate_frame.ensures ∙ c.if-not-may_donate_frame.true))

pub loop-i-preserved : goal.loop-i-preserved
loop-i-preserved c =
    below_more _ _ c.loop-i.invariant (sym c.may_donate_frame.ensures ∙ c.if-not-may_donate_frame.false)

pub returns : goal.returns
returns c =
    sym
    (all_below_true c.args.n
    (λ i. is_free_page (map_of c.args.shared.now.host.runs.items (c.args.pfn + i))
    && is_unmapped (map_of c.args.shared.now.hyp.runs.items (hyp_page (c.args.pfn + i))))
    (λ i less. c.loop-i.invariant i (omega (arith, c.loop-i-test.false))))
