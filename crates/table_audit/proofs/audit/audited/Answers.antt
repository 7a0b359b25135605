use Rattle.std.proofs.Common.{◌≡◌, None, subst}
use Rattle.std.specs.Prelude.{◌↔◌, IfOk, IfSome}
use Rattle.page_state.specs.LayoutView.{layout_of}
use Rattle.reference_model.specs.model.State.{Contents}
use Rattle.ghost_spec.specs.declared.lists.GhostLists.{GhostLists}
use Rattle.ghost_spec.specs.States.{contents_in}
use Rattle.table_audit.specs.Audited.{IsFirstFinding, IsWell}
use Rattle.table_audit.proofs.audit.audited.Goals as goal

pub returns-clause-none : goal.returns-clause-none
returns-clause-none c =
    subst
    (λ (s : Contents). IfOk c.compared-found.result
    (λ o. (o ≡ None)
    ↔ IsWell (layout_of c.args.kept.now.layout)
    (contents_in c.args.kept.now) s)) c.in_ok-walked.ensures.contents
    (subst
    (λ (g : GhostLists). IfOk c.compared-found.result
    (λ o. (o ≡ None)
    ↔ IsWell (layout_of g.layout) (contents_in g)
    (contents_in c.in_ok-walked.walked))) c.lists.ensures.value c.compared-found.ensures.none)

pub returns-clause-first : goal.returns-clause-first
returns-clause-first c =
    subst
    (λ (s : Contents). IfOk c.compared-found.result
    (λ o. IfSome o
    (IsFirstFinding (layout_of c.args.kept.now.layout)
    (contents_in c.args.kept.now) s))) c.in_ok-walked.ensures.contents
    (subst
    (λ (g : GhostLists). IfOk c.compared-found.result
    (λ o. IfSome o
    (IsFirstFinding (layout_of g.layout) (contents_in g)
    (contents_in c.in_ok-walked.walked)))) c.lists.ensures.value c.compared-found.ensures.first)
