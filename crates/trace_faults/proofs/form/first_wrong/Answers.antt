use Rattle.std.proofs.Common.{◌+◌, ◌∙◌, sym, ap, arith, drop, add-one}
use Rattle.trace_faults.specs.Forms.{all_forms, first_wrong}
use Rattle.trace_faults.proofs.Places.{right_here, wrong_here}
use Rattle.trace_faults.proofs.form.first_wrong.Goals as goal

pub returns-then-not-is_right : goal.returns-then-not-is_right
returns-then-not-is_right c =
    let at = c.loop-place.place in
    sym
    (c.loop-place.invariant
    ∙ wrong_here c.args.words.now (all_forms c.args.forms) at at (sym c.if-not-is_right.ensures))

pub loop-place-preserved : goal.loop-place-preserved
loop-place-preserved c =
    let at = c.loop-place.place in
    let words = c.args.words.now in
    let all = all_forms c.args.forms in
    c.loop-place.invariant
    ∙ right_here words all at at (sym c.if-not-is_right.ensures) (omega (arith, c.count-place-end.ensures))
    ∙ ap (λ n. first_wrong words (drop n all) (at + 1)) (sym (add-one at))
