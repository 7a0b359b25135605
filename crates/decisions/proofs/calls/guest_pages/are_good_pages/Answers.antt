use Rattle.std.proofs.Common.{◌≤◌, ◌<◌, subst}
use Rattle.page_state.specs.Geometries.{pages_below}
use Rattle.page_state.specs.LayoutView.{layout_of}
use Rattle.decisions.proofs.Ranged.{few_pages, many_pages}
use Rattle.decisions.proofs.calls.guest_pages.are_good_pages.Goals as goal

pub returns-then-n-pages-clause-value : goal.returns-then-n-pages-clause-value
returns-then-n-pages-clause-value c =
    rw c.pages-pages.ensures
    (few_pages (pages_below (layout_of c.args.layout.now).depth) c.args.gfn c.args.n c.requires
    (subst (λ k. c.args.n ≤ k) c.pages-pages.ensures c.if-n-pages.true))

pub returns-else-n-pages-clause-value : goal.returns-else-n-pages-clause-value
returns-else-n-pages-clause-value c =
    rw c.pages-pages.ensures
    (many_pages (pages_below (layout_of c.args.layout.now).depth) c.args.gfn c.args.n c.requires
    (subst (λ k. k < c.args.n) c.pages-pages.ensures c.if-n-pages.false))
