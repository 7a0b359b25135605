use Rattle.std.proofs.Common.{◌∙◌, ap, sym, take, Some, None}
use Rattle.trace_text.proofs.ReplayLemmas.{mapped}
use Rattle.trace_race.specs.Courses.{course_in}
use Rattle.trace_outcomes.specs.Races.{texts_in}
use Rattle.trace_outcomes.specs.Told.{first_apart}
use Rattle.trace_outcomes.proofs.Tells.{observed}
use Rattle.trace_outcomes.proofs.telling.order_in.Goals as goal

pub returns-in-Some : goal.returns-in-Some
returns-in-Some g c =
    let n = c.in_order-count.result in
    let texts = texts_in (take n c.args.texts.now) in
    let is =
    c.in_ok-line.ensures
    ∙ ap (λ xs. first_apart (take n xs) c.as_slice.result.now texts) c.as_slice-steps.ensures.value
    ∙ ap (λ xs. first_apart (take n c.args.course.now.steps.items) xs texts) c.as_slice.ensures.value in
    mapped c.otherwise.result _ _
    (λ t tells m made. observed m
    (course_in c.args.course.now) c.args.race.now c.args.texts.now n c.in_order-count.ensures made c.args.limit
    t
    (Some (c.in-Some.line, c.in-Some.reply)) (sym c.in-Some.is ∙ is) tells) c.otherwise.ensures

pub returns-in-None : goal.returns-in-None
returns-in-None g c =
    let n = c.in_order-count.result in
    let texts = texts_in (take n c.args.texts.now) in
    let is =
    c.in_ok-line.ensures
    ∙ ap (λ xs. first_apart (take n xs) c.as_slice.result.now texts) c.as_slice-steps.ensures.value
    ∙ ap (λ xs. first_apart (take n c.args.course.now.steps.items) xs texts) c.as_slice.ensures.value in
    mapped c.order_behind.result _ _
    (λ t tells m made. observed m
    (course_in c.args.course.now) c.args.race.now c.args.texts.now n c.in_order-count.ensures made c.args.limit
    t None
    (sym c.in-None.is ∙ is) (tells m made)) c.order_behind.ensures
