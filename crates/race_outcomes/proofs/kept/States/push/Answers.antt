use Rattle.std.proofs.Common.{◌≡◌, ◌∙◌, ◌++◌, ◌∷◌, [], ap, sym, subst, Vec, Global}
use Rattle.std.proofs.lemmas.List.Elements.{All-push}
use Rattle.page_state.specs.LayoutView.{layout_of}
use Rattle.ghost_spec.specs.declared.lists.GhostLists.{GhostLists}
use Rattle.race_outcomes.specs.Kept.{AreOfLayout}
use Rattle.race_outcomes.proofs.kept.States.push.Goals as goal

pub returns-clause-layouts : goal.returns-clause-layouts
returns-clause-layouts c =
    let l = layout_of c.args.state.layout in
    let g = c.in_ok-again.again in
    let old = c.args.self.now.states.items in
    let more = c.in_ok-push.ensures.items ∙ ap (λ (v : Vec GhostLists Global). v.items ++ g ∷ []) c.add_place.ensures in
    subst (AreOfLayout l) (sym more)
    (All-push (λ (x : GhostLists). layout_of x.layout ≡ l) old g c.requires
    (ap (λ (x : GhostLists). layout_of x.layout) (c.in_ok-again.ensures ∙ c.in_ok-state.ensures)))
