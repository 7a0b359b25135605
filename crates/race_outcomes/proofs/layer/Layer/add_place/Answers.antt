use Rattle.std.proofs.Common.{◌≡◌, ◌∙◌, ℕ, ◌++◌, ◌∷◌, [], List, ap, sym, get_or, map, set, Vec, Global}
use Rattle.std.proofs.lemmas.List.{get_or-map, map-set}
use Rattle.race_outcomes.proofs.layer.Layer.add_place.Goals as goal

pub returns-clause-places : goal.returns-clause-places
returns-clause-places c =
    let items : Vec ℕ Global → List ℕ = λ v. v.items in
    let old = c.args.self.now.places.items in
    let key = c.args.key in
    let place = c.args.place in
    let more : c.push.new.self.items ≡ get_or (map items old) key [] ++ place ∷ [] =
    c.in_ok-push.ensures.items ∙ ap (λ (v : Vec ℕ Global). v.items ++ place ∷ []) c.index_mut.ensures.value
    ∙ ap (λ (xs : List ℕ). xs ++ place ∷ []) (sym (get_or-map items old key _ [] c.requires)) in
    map-set items old key c.push.new.self ∙ ap (set (map items old) key) more
