use Rattle.std.proofs.Common.{sym, subst}
use Rattle.std.proofs.lemmas.Result.{on_ok_weaker}
use Rattle.race_outcomes.specs.declared.kept.Known.{Known}
use Rattle.race_outcomes.specs.Kept.{IsAtHand}
use Rattle.race_outcomes.proofs.Known.{hand_at, known_again}
use Rattle.race_outcomes.proofs.layer.spread_known.Goals as goal

pub spread-requires-clause-at_hand : goal.spread-requires-clause-at_hand
spread-requires-clause-at_hand c =
    let g = c.args.node.now.state in
    let turns = c.args.turns.now in
    let a = c.args.layer.now.states in
    subst (λ (k : Known). IsAtHand g turns k a) (sym c.index_mut.ensures.value)
    (hand_at g turns c.known_at.new.known.items c.in-Ok.at _ a c.in-Ok.ensures.inside c.in-Ok.ensures.same
    (c.in-Ok.ensures.known turns c.requires.known.known) c.requires.known.layouts)

pub returns-clause-known : goal.returns-clause-known
returns-clause-known c =
    let g = c.args.node.now.state in
    let turns = c.args.turns.now in
    let ks = c.known_at.new.known.items in
    on_ok_weaker c.spread.result
    (λ h. known_again g turns ks c.in-Ok.at c.spread.new.known c.spread.new.layer.states
    (c.in-Ok.ensures.known turns c.requires.known.known) h) c.spread.ensures.at_hand
