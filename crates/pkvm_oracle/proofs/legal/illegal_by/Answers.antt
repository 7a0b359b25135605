use Rattle.std.proofs.Common.{◌≡◌, ◌↔◌, Bool, None, IfOk, subst, sym}
use Rattle.page_state.specs.LayoutView.{layout_of}
use Rattle.ghost_legal.specs.Told.{IsLegalBy}
use Rattle.ghost_spec.specs.States.{contents_in}
use Rattle.pkvm_oracle.proofs.legal.illegal_by.Goals as goal

pub returns-then-trees-clause-legal : goal.returns-then-trees-clause-legal
returns-then-trees-clause-legal c =
    subst
    (λ (b : Bool). IfOk c.illegal.result
    (λ o. (o ≡ None) ↔ IsLegalBy b (layout_of c.args.state.now.layout) (contents_in c.args.state.now)))
    (sym c.if-trees.true) c.illegal.ensures.legal

pub returns-else-trees-clause-legal : goal.returns-else-trees-clause-legal
returns-else-trees-clause-legal c =
    subst
    (λ (b : Bool). IfOk c.illegal_but_for_trees.result
    (λ o. (o ≡ None) ↔ IsLegalBy b (layout_of c.args.state.now.layout) (contents_in c.args.state.now)))
    (sym c.if-trees.false) c.illegal_but_for_trees.ensures.legal
