use Rattle.std.proofs.Common.{take}
use Rattle.std.specs.Prelude.{Contains}
use Rattle.page_state.specs.LayoutView.{layout_of}
use Rattle.race_outcomes.specs.declared.node.Node.{Node}
use Rattle.race_outcomes.specs.Kept.{AreKnown}
use Rattle.race_outcomes.specs.Layers.{AreNext, IsIndexed}
use Rattle.race_outcomes.proofs.layer.next_layer.Given as goal

abbrev pub invariant-loop-i : goal.invariant-loop-i
invariant-loop-i g l = record {
  next : AreNext l.turns l.wanted (take l.i l.nodes) l.layer.nodes.items;
  indexed : IsIndexed l.layer;
  known : (n : Node) → Contains l.nodes n → AreKnown (layout_of n.state.layout) l.turns l.known.items l.layer.states;
}
