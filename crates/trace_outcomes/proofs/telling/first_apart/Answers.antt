use Rattle.std.proofs.Common.{◌∙◌, sym, rules}
use Rattle.trace_outcomes.proofs.Tells.{apart_next}
use Rattle.trace_outcomes.proofs.telling.first_apart.Goals as goal

pub loop-place-preserved : goal.loop-place-preserved
loop-place-preserved c =
    sym
    (apart_next c.args.steps.now c.args.replies.now c.args.texts.now c.loop-place.place _
    c.index-texts-place.result c.loop-place-test.true c.requires.replies c.requires.texts
    (search rules) (sym c.in_ok-reads.ensures ∙ search rules))
    ∙ c.loop-place.invariant
