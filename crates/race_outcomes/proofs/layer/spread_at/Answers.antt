use Rattle.std.proofs.Common.{subst}
use Rattle.std.specs.Prelude.{IfSome}
use Rattle.std.proofs.lemmas.Result.{IfErr-weaker, IfOk-weaker}
use Rattle.race_outcomes.specs.declared.node.Node.{Node}
use Rattle.race_outcomes.specs.Layers.{IsStepAt}
use Rattle.race_outcomes.proofs.Crowded.{add_fault}
use Rattle.race_outcomes.proofs.Layers.{added_has, added_spread}
use Rattle.race_outcomes.proofs.layer.spread_at.Goals as goal

pub returns-in-Some-clause-spread : goal.returns-in-Some-clause-spread
returns-in-Some-clause-spread c =
    let P : Node → Type 0 = λ n. IsStepAt c.args.turns.now c.args.wanted.now c.args.node.now c.args.place n in
    let step : P c.in-Some.next = subst (λ o. IfSome o P) c.in-Some.is c.in_ok-next.ensures.some in
    IfOk-weaker c.add.result _ _
    (λ _ added. added_spread c.args.turns.now c.args.wanted.now c.args.node.now c.args.place c.in-Some.next
    c.args.layer.now.nodes.items c.add.new.self.nodes.items step added) c.add.ensures.added

pub returns-in-Some-clause-has : goal.returns-in-Some-clause-has
returns-in-Some-clause-has c =
    let P : Node → Type 0 = λ n. IsStepAt c.args.turns.now c.args.wanted.now c.args.node.now c.args.place n in
    let step : P c.in-Some.next = subst (λ o. IfSome o P) c.in-Some.is c.in_ok-next.ensures.some in
    IfOk-weaker c.add.result _ _
    (λ _ added. added_has c.args.turns.now c.args.wanted.now c.args.node.now c.args.place c.in-Some.next
    c.args.layer.now.nodes.items c.add.new.self.nodes.items step added) c.add.ensures.added

pub returns-in-Some-clause-fault : goal.returns-in-Some-clause-fault
returns-in-Some-clause-fault c =
    let P : Node → Type 0 = λ n. IsStepAt c.args.turns.now c.args.wanted.now c.args.node.now c.args.place n in
    let step : P c.in-Some.next = subst (λ o. IfSome o P) c.in-Some.is c.in_ok-next.ensures.some in
    IfErr-weaker c.add.result _ _
    (λ f h. add_fault c.args.turns.now c.args.wanted.now c.args.limit c.args.node.now c.args.place c.in-Some.next
    c.args.layer.now.nodes.items f step c.requires.indexed.apart h) c.add.ensures.fault
