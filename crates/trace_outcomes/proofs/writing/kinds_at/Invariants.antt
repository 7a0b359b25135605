use Rattle.std.proofs.Common.{◌≡◌, drop, map}
use Rattle.trace_outcomes.specs.Texts.{kinds_at, text_at, with_kinds}
use Rattle.trace_outcomes.proofs.writing.kinds_at.Given as goal

abbrev pub invariant-loop-outcome : goal.invariant-loop-outcome
invariant-loop-outcome l =
    with_kinds (map (λ v. v.items) l.kinds.items)
    (map (λ o. text_at l.place o.replies.items) (drop l.outcome-index l.found))
    ≡ kinds_at l.found l.place
