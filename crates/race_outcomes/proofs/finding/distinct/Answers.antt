use Rattle.std.proofs.Common.{◌∙◌, ◌∷◌, [], ◌++◌, ap, sym, subst, take}
use Rattle.std.proofs.lemmas.List.{take_more}
use Rattle.race_outcomes.specs.Layers.{AreOutcomes}
use Rattle.race_outcomes.proofs.Found.{outcomes_more}
use Rattle.race_outcomes.proofs.finding.distinct.Goals as goal

pub loop-i-preserved : goal.loop-i-preserved
loop-i-preserved c =
    let nodes = c.args.nodes.now in
    let m = c.index-nodes-i.result in
    let new = c.add_outcome.new.found.items in
    let front = take c.loop-i.i nodes in
    subst (λ ns. AreOutcomes ns new)
    (ap (λ x. front ++ x ∷ []) c.index-nodes-i.is ∙ sym (take_more nodes c.loop-i.i m c.loop-i-test.true))
    (outcomes_more m front c.loop-i.found.items new c.loop-i.invariant c.in_ok-add_outcome.ensures)
