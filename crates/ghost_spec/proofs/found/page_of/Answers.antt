use Rattle.std.proofs.Common.{◌≡◌, Some, None, sym, ◌∙◌}
use Rattle.page_state.specs.LayoutView.{layout_of}
use Rattle.ghost_spec.specs.Found.{first_page_in}
use Rattle.ghost_spec.proofs.FoundPages.{page-is, page-past, page-none}
use Rattle.ghost_spec.proofs.found.page_of.Goals as goal

pub returns-then-page-pages-clause-value : goal.returns-then-page-pages-clause-value
returns-then-page-pages-clause-value c =
    let found : first_page_in c.args.frame c.args.state c.args.tree.now.runs.items ≡ Some c.in-Some.page =
    sym (rw c.as_slice.ensures.value at c.page_in.ensures) ∙ c.in-Some.is in
    sym
    (page-is c.args.frame c.args.state
    (layout_of c.args.layout.now) c.args.tree.now.runs.items c.in-Some.page c.requires.coarsest found
    (rw c.pages.ensures.value at c.if-page-pages.true))

pub returns-else-page-pages-clause-value : goal.returns-else-page-pages-clause-value
returns-else-page-pages-clause-value c =
    let found : first_page_in c.args.frame c.args.state c.args.tree.now.runs.items ≡ Some c.in-Some.page =
    sym (rw c.as_slice.ensures.value at c.page_in.ensures) ∙ c.in-Some.is in
    sym
    (page-past c.args.frame c.args.state
    (layout_of c.args.layout.now) c.args.tree.now.runs.items c.in-Some.page c.requires.coarsest found
    (rw c.pages.ensures.value at c.if-page-pages.false))

pub returns-in-None-clause-value : goal.returns-in-None-clause-value
returns-in-None-clause-value c =
    let found : first_page_in c.args.frame c.args.state c.args.tree.now.runs.items ≡ None =
    sym (rw c.as_slice.ensures.value at c.page_in.ensures) ∙ c.in-None.is in
    sym (page-none c.args.frame c.args.state (layout_of c.args.layout.now) c.args.tree.now.runs.items found)
