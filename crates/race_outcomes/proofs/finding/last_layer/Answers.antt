use Rattle.std.proofs.Common.{◌+◌, sym, subst, Vec, Global}
use Rattle.std.specs.Prelude.{All}
use Rattle.page_state.specs.LayoutView.{layout_of}
use Rattle.ghost_spec.specs.States.{ghost_state}
use Rattle.race_outcomes.specs.declared.node.Node.{Node}
use Rattle.race_outcomes.specs.Layers.{AreNext, HaveOneLayout, IsLayer, IsLayerFault, IsReady}
use Rattle.race_outcomes.specs.Orders.{IsOutcomesFault}
use Rattle.race_outcomes.proofs.Crowded.{outcomes_fault}
use Rattle.race_outcomes.proofs.Found.{passed}
use Rattle.race_outcomes.proofs.Layers.{layer_layouts, layer_next, layer_ready}
use Rattle.race_outcomes.proofs.finding.last_layer.Goals as goal

pub next_layer-requires-clause-ready : goal.next_layer-requires-clause-ready
next_layer-requires-clause-ready g c =
    let turns = c.args.turns.now in
    let wanted = c.args.wanted.now in
    let state = c.args.state.now in
    subst (All (IsReady turns wanted)) (sym c.as_slice.ensures.value)
    (layer_ready turns wanted (layout_of state.layout)
    (ghost_state state) c.loop-made.made c.loop-made.nodes.items c.requires.cpus c.requires.count
    c.loop-made.invariant)

pub next_layer-requires-clause-layouts : goal.next_layer-requires-clause-layouts
next_layer-requires-clause-layouts g c =
    let turns = c.args.turns.now in
    let state = c.args.state.now in
    subst HaveOneLayout (sym c.as_slice.ensures.value)
    (layer_layouts turns c.args.wanted.now (layout_of state.layout)
    (ghost_state state) c.loop-made.made c.loop-made.nodes.items c.loop-made.invariant)

pub loop-made-preserved : goal.loop-made-preserved
loop-made-preserved g c =
    let turns = c.args.turns.now in
    let wanted = c.args.wanted.now in
    let l = layout_of c.args.state.now.layout in
    let s = ghost_state c.args.state.now in
    let old = c.loop-made.nodes.items in
    let new = c.in_ok-next.next.items in
    let goes : AreNext turns wanted old new =
    subst (λ ns. AreNext turns wanted ns new) c.as_slice.ensures.value c.in_ok-next.ensures.next in
    subst (λ (v : Vec Node Global). IsLayer turns wanted l s (c.loop-made.made + 1) v.items)
    (sym c.replace.ensures.after) (layer_next turns wanted l s c.loop-made.made old new c.loop-made.invariant goes)

pub returns-in_err-next-clause-fault : goal.returns-in_err-next-clause-fault
returns-in_err-next-clause-fault g c =
    let turns = c.args.turns.now in
    let wanted = c.args.wanted.now in
    let l = layout_of c.args.state.now.layout in
    let s = ghost_state c.args.state.now in
    let f = c.in_err-next.field-0.0 in
    passed (IsOutcomesFault l s turns wanted c.args.limit) c.from_residual.result f c.from_residual.ensures.1
    (outcomes_fault turns wanted c.args.limit l s c.loop-made.made c.loop-made.nodes.items f c.loop-made.invariant
    (subst
    (λ ns. IsLayerFault turns wanted c.args.limit ns f) c.as_slice.ensures.value c.in_err-next.ensures.fault))
