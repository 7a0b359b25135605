use Rattle.std.proofs.Common.{◌≡◌, ◌∙◌, ◌∷◌, [], ◌++◌, ap, sym, subst}
use Rattle.page_state.specs.LayoutView.{layout_of}
use Rattle.ghost_spec.specs.States.{ghost_state}
use Rattle.race_outcomes.specs.Layers.{IsLayer}
use Rattle.race_outcomes.proofs.Layers.{layer_first}
use Rattle.race_outcomes.proofs.finding.first_nodes.Goals as goal

pub returns : goal.returns
returns c wanted =
    let turns = c.args.turns.now in
    let l = layout_of c.args.state.now.layout in
    let s = ghost_state c.args.state.now in
    let n = c.in_ok-first.first in
    let is = c.in_ok-first.ensures in
    let alone : c.push.new.self.items ≡ n ∷ [] =
    c.in_ok-push.ensures.items ∙ ap (λ ns. ns ++ n ∷ []) c.new-nodes.ensures.items in
    subst (IsLayer turns wanted l s 0) (sym alone) (layer_first turns wanted l s n is.layout is.state is.told is.order)
