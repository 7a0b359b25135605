use Rattle.std.proofs.Common.{◌∙◌, ap, arith, length, sym, take}
use Rattle.std.proofs.lemmas.List.{length-take}
use Rattle.trace_race.specs.Courses.{course_in}
use Rattle.trace_outcomes.specs.Races.{texts_in}
use Rattle.trace_outcomes.proofs.Turns.{first_below, has_made, made_ready, texts_few, turns_count}
use Rattle.trace_outcomes.proofs.making.first_made.Goals as goal

pub steps_made-requires : goal.steps_made-requires
steps_made-requires c =
    let before = c.as_slice.ensures.value ∙ c.in-Ok.ensures in
    let count =
    ap length before
    ∙ turns_count (take c.in_order-count.result c.as_slice-steps.result.now)
    (texts_in (take c.in_order-count.result c.args.texts.now))
    (texts_few c.in_order-count.result c.args.texts.now c.as_slice-steps.result.now
    (c.requires.count ∙ ap length (sym c.as_slice-steps.ensures.value))) in
    let few = length-take c.in_order-count.result c.as_slice-steps.result.now in
    let same = ap length c.as_slice-steps.ensures.value in
    let steps = c.args.course.now.steps in
    record {
      cpus =
          first_below
          (course_in c.args.course.now) c.args.state c.as_slice-steps.result.now c.args.texts.now
          c.as_slice.result.now c.in_order-count.result c.as_slice-steps.ensures.value c.requires.sound
          c.requires.config before;
      few = omega (arith, count, few, same, steps.ok.0, steps.ok.1, steps.small);
      low = c.requires.low;
    }

pub returns-clause-ready : goal.returns-clause-ready
returns-clause-ready c =
    made_ready
    (course_in c.args.course.now) c.args.state _ c.as_slice-steps.result.now c.as_slice-steps.ensures.value
    c.args.texts.now c.as_slice.result.now c.in_order-count.result c.in_order-count.ensures
    (c.as_slice.ensures.value ∙ c.in-Ok.ensures) c.in-Ok-turns_of.ensures
    c.in_ok-replies.ensures.told c.in_ok-replies.ensures.layout c.requires.sound c.requires.config c.requires.count
    (omega (
      arith,
      c.args.course.now.steps.ok.0,
      c.args.course.now.steps.ok.1,
      c.args.course.now.steps.small,
    )) c.requires.low

pub returns-clause-made : goal.returns-clause-made
returns-clause-made c =
    has_made
    (course_in c.args.course.now) c.args.state _ c.as_slice-steps.result.now c.as_slice-steps.ensures.value
    c.args.texts.now c.as_slice.result.now c.in_order-count.result c.in_order-count.ensures
    (c.as_slice.ensures.value ∙ c.in-Ok.ensures) c.in-Ok-turns_of.ensures
    c.in_ok-replies.ensures.told c.in_ok-replies.ensures.layout
