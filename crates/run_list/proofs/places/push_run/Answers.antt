use Rattle.std.proofs.Common.{◌∙◌, ◌++◌, ◌∷◌, [], ap}
use Rattle.run_list.proofs.places.push_run.Goals as goal

pub returns-clause-ok : goal.returns-clause-ok
returns-clause-ok g c =
    c.in_ok-push.ensures.items ∙ ap (λ us. us ++ c.args.run ∷ []) (c.join_last.ensures.stays c.if-join_last.false)
    ∙ c.join_last.ensures.apart c.if-join_last.false
