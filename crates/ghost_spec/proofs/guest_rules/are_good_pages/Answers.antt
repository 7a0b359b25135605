use Rattle.std.proofs.Common.{◌≤◌, ◌<◌, subst}
use Rattle.page_state.specs.LayoutView.{layout_of}
use Rattle.page_state.specs.Geometries.{pages_below}
use Rattle.ghost_spec.proofs.GoodPages.{few_pages, many_pages}
use Rattle.ghost_spec.proofs.guest_rules.are_good_pages.Goals as goal

pub returns-then-n-last-clause-value : goal.returns-then-n-last-clause-value
returns-then-n-last-clause-value c =
    rw c.pages-last.ensures.value
    (few_pages (pages_below (layout_of c.args.layout.now).depth) c.args.page c.args.n c.requires
    (subst (λ k. c.args.n ≤ k) c.pages-last.ensures.value c.if-n-last.true))

pub returns-else-n-last-clause-value : goal.returns-else-n-last-clause-value
returns-else-n-last-clause-value c =
    rw c.pages-last.ensures.value
    (many_pages (pages_below (layout_of c.args.layout.now).depth) c.args.page c.args.n c.requires
    (subst (λ k. k < c.args.n) c.pages-last.ensures.value c.if-n-last.false))
