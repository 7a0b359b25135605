use Rattle.std.proofs.Common.{◌≡◌, drop, map}
use Rattle.trace_outcomes.specs.Texts.{is_among}
use Rattle.trace_outcomes.proofs.writing.is_among.Given as goal

abbrev pub invariant-loop-other : goal.invariant-loop-other
invariant-loop-other l =
    is_among (map (λ v. v.items) (drop l.other-index l.texts)) l.text ≡ is_among (map (λ v. v.items) l.texts) l.text
