use Rattle.std.proofs.Common.{◌≡◌, ◌∙◌, ℕ, ◌++◌, ◌∷◌, [], ap, arith, get_or, length, set, Vec, Global}
use Rattle.race_outcomes.specs.declared.node.Node.{Node}
use Rattle.race_outcomes.specs.Layers.{places_in}
use Rattle.race_outcomes.proofs.Indexed.{indexed_more}
use Rattle.race_outcomes.proofs.layer.Layer.push.Goals as goal

pub returns-in_ok-push-in-Ok-clause-indexed : goal.returns-in_ok-push-in-Ok-clause-indexed
returns-in_ok-push-in-Ok-clause-indexed c =
    let x = c.args.self.now in
    let key = c.args.key in
    let place : c.len-place.result ≡ length x.nodes.items = omega (arith, c.len-place.ensures, x.nodes.ok.0) in
    indexed_more x
    (record {
      nodes = c.push.new.self;
      places = c.add_place.new.self.places;
      states = c.add_place.new.self.states;
    }) c.args.node key c.requires.indexed c.requires.key c.requires.low
    c.requires.apart
    (c.in_ok-push-in-Ok.ensures.items
    ∙ ap (λ (v : Vec Node Global). v.items ++ c.args.node ∷ []) c.in-Ok.ensures.nodes)
    (c.in-Ok.ensures.places
    ∙ ap (λ (p : ℕ). set (places_in x) key (get_or (places_in x) key [] ++ p ∷ [])) place) c.in-Ok.ensures.count
