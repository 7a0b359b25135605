use Rattle.std.proofs.Common.{◌≡◌, ◌∙◌, ap, sym}
use Rattle.std.specs.Prelude.{List, Option}
use Rattle.reference_model.specs.model.State.{Reference}
use Rattle.page_state.specs.LayoutView.{layout_of}
use Rattle.ghost_spec.specs.declared.lists.GhostLists.{GhostLists}
use Rattle.ghost_spec.specs.States.{ghost_state}
use Rattle.call_table.specs.declared.reply.Reply.{Reply}
use Rattle.race_outcomes.specs.Orders.{Point}
use Rattle.race_outcomes.proofs.Replies.{told_same}
use Rattle.race_outcomes.proofs.layer.is_same_point.Goals as goal

same_point : (s t : Reference) (a b : List (Option Reply))
    → s ≡ t
    → a ≡ b
    → ◌≡◌ {A = Point} (record { state = s; told = a }) (record { state = t; told = b })
same_point s t a b e f = cc

pub returns-then-eq-clause-same : goal.returns-then-eq-clause-same
returns-then-eq-clause-same c h =
    let a = c.args.a.now in
    let b = c.args.b.now in
    let states =
    ap ghost_state (sym c.get-one.ensures) ∙ c.is_same_state.ensures.same h ∙ ap ghost_state c.get-other.ensures in
    same_point (ghost_state a.state) (ghost_state b.state) a.told.items b.told.items states
    ((told_same a.told.items b.told.items c.eq.result c.eq.ensures).0 c.if-eq.true)

pub returns-then-eq-clause-apart : goal.returns-then-eq-clause-apart
returns-then-eq-clause-apart c e layouts same =
    c.is_same_state.ensures.apart e
    (ap (λ (g : GhostLists). layout_of g.layout) c.get-one.ensures ∙ layouts
    ∙ ap (λ (g : GhostLists). layout_of g.layout) (sym c.get-other.ensures))
    (ap ghost_state c.get-one.ensures ∙ ap (λ (p : Point). p.state) same ∙ ap ghost_state (sym c.get-other.ensures))

pub returns-clause-apart : goal.returns-clause-apart
returns-clause-apart c e layouts same =
    let told =
    (told_same c.args.a.now.told.items c.args.b.now.told.items c.eq.result c.eq.ensures).1
    (ap (λ (p : Point). p.told) same) in
    let tested = c.if-eq.false in
    absurd (cc)
