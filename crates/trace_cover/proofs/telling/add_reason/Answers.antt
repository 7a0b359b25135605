use Rattle.std.proofs.Common.{◌∙◌, ◌++◌, ℕ, List, ap, codes}
use Rattle.std.proofs.lemmas.List.{append_assoc}
use Rattle.trace_cover.specs.Told.{named_reason}
use Rattle.trace_cover.proofs.telling.add_reason.Goals as goal

pub returns : goal.returns
returns c =
    c.in_ok-add_named.ensures
    ∙ ap (λ (t : List ℕ). t ++ named_reason c.args.row c.args.why.now) c.in_ok-extend_from_slice.ensures.items
    ∙ append_assoc c.args.text.now.items (codes "impossible ") (named_reason c.args.row c.args.why.now)
