use Rattle.std.proofs.Common.{ℕ, ◌<◌}
use Rattle.race_outcomes.specs.Kept.{IsAtHand}
use Rattle.race_outcomes.specs.Layers.{HasStep, IsIndexed, IsSpread}
use Rattle.race_outcomes.proofs.layer.spread.Given as goal

abbrev pub invariant-loop-place : goal.invariant-loop-place
invariant-loop-place l = record {
  spread : IsSpread l.turns l.wanted l.node l.initial.layer.nodes.items l.layer.nodes.items;
  indexed : IsIndexed l.layer;
  at_hand : IsAtHand l.node.state l.turns l.known l.layer.states;
  has : (k : ℕ) → k < l.place → HasStep l.turns l.wanted l.node l.layer.nodes.items k;
}
