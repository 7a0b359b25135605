use Rattle.std.proofs.Common.{◌∙◌, ◌∷◌, [], ◌++◌, ap, sym, subst, take}
use Rattle.std.specs.Prelude.{Contains}
use Rattle.std.proofs.lemmas.List.{take_more}
use Rattle.std.proofs.lemmas.List.Elements.{Contains-get_or}
use Rattle.race_outcomes.specs.Layers.{AreNext, IsLayerFault}
use Rattle.race_outcomes.proofs.Crowded.{layer_fault, within_all}
use Rattle.race_outcomes.proofs.Found.{passed}
use Rattle.race_outcomes.proofs.Known.{known_of_each}
use Rattle.race_outcomes.proofs.Layers.{next_more}
use Rattle.race_outcomes.proofs.layer.next_layer.Goals as goal

pub spread_known-requires-clause-known : goal.spread_known-requires-clause-known
spread_known-requires-clause-known g c =
    let nodes = c.args.nodes.now in
    let m = c.index-nodes-i.result in
    c.loop-i.invariant.known m
    (subst (Contains nodes) (sym c.index-nodes-i.is) (Contains-get_or nodes c.loop-i.i m c.loop-i-test.true))

pub loop-i-preserved : goal.loop-i-preserved
loop-i-preserved g c =
    let turns = c.args.turns.now in
    let wanted = c.args.wanted.now in
    let nodes = c.args.nodes.now in
    let m = c.index-nodes-i.result in
    let new = c.spread_known.new.layer.nodes.items in
    let front = take c.loop-i.i nodes in
    let more = c.in_ok-spread_known.ensures in
    let there =
    subst (Contains nodes) (sym c.index-nodes-i.is) (Contains-get_or nodes c.loop-i.i m c.loop-i-test.true) in
    record {
      next =
          subst (λ ns. AreNext turns wanted ns new)
          (ap (λ x. front ++ x ∷ []) c.index-nodes-i.is ∙ sym (take_more nodes c.loop-i.i m c.loop-i-test.true))
          (next_more turns wanted m front c.loop-i.layer.nodes.items new c.loop-i.invariant.next more.spread more.has);
      indexed = more.indexed;
      known =
          λ n here. known_of_each turns nodes m n c.spread_known.new.known.items c.spread_known.new.layer.states
          c.requires.layouts there here more.known;
    }

pub returns-in_err-spread_known-clause-fault : goal.returns-in_err-spread_known-clause-fault
returns-in_err-spread_known-clause-fault g c =
    let turns = c.args.turns.now in
    let wanted = c.args.wanted.now in
    let nodes = c.args.nodes.now in
    let m = c.index-nodes-i.result in
    let there =
    subst (Contains nodes) (sym c.index-nodes-i.is) (Contains-get_or nodes c.loop-i.i m c.loop-i-test.true) in
    passed (IsLayerFault turns wanted c.args.limit nodes) c.from_residual.result _ c.from_residual.ensures.1
    (layer_fault turns wanted c.args.limit nodes (take c.loop-i.i nodes) m c.loop-i.layer.nodes.items _
    (within_all nodes c.loop-i.i) there c.loop-i.invariant.next c.in_err-spread_known.ensures.fault)
