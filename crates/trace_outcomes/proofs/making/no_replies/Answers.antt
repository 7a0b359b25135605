use Rattle.std.proofs.Common.{◌+◌, ◌++◌, ◌∙◌, ◌∷◌, [], None, ap, drop, sym, rules}
use Rattle.std.proofs.lemmas.List.{append_assoc, at_drop_more}
use Rattle.trace_outcomes.specs.Races.{nothing_wanted}
use Rattle.trace_outcomes.proofs.Noting.{no_step}
use Rattle.trace_outcomes.proofs.making.no_replies.Goals as goal

pub loop-asked-preserved : goal.loop-asked-preserved
loop-asked-preserved c =
    let steps = c.args.steps.now in
    let place = c.loop-asked.asked-index in
    let items = c.loop-asked.texts.items in
    let rest = nothing_wanted (drop (place + 1) steps) in
    ap (λ t. t ++ rest) (search rules) ∙ append_assoc items (None ∷ []) rest
    ∙ ap (λ t. items ++ t) (sym (at_drop_more nothing_wanted steps place no_step c.loop-asked-test.true))
    ∙ c.loop-asked.invariant
