use Rattle.std.proofs.Common.{◌+◌, ap, arith, length, subst, Some, None}
use Rattle.page_state.specs.LayoutView.{layout_of}
use Rattle.ghost_spec.specs.States.{ghost_state}
use Rattle.race_outcomes.specs.Orders.{IsExplained, IsOutcomesFault}
use Rattle.trace_text.proofs.ReplayLemmas.{mapped}
use Rattle.trace_race.specs.Courses.{course_in}
use Rattle.trace_outcomes.specs.Races.{first_of}
use Rattle.trace_outcomes.proofs.Generated.{none_last}
use Rattle.trace_outcomes.proofs.Tells.{behind_many, none_tells, order_tells}
use Rattle.trace_outcomes.proofs.Turns.{rest_is}
use Rattle.trace_outcomes.proofs.telling.order_behind.Goals as goal

pub returns-in-Ok-Some : goal.returns-in-Ok-Some
returns-in-Ok-Some g c =
    let race = c.args.race.now in
    let n = c.in_order-count.result in
    let order = c.in-Ok-Some.order in
    mapped c.order_reported.result _ _
    (λ t tells m made. order_tells m
    (course_in c.args.course.now) race c.as_slice.result.now c.as_slice.ensures.value c.args.texts.now n
    c.in_order-count.ensures made c.args.limit t order.items c.as_slice-in-Ok-Some.result.now
    c.as_slice-in-Ok-Some.ensures.value
    (subst
    (λ w. IsExplained (layout_of race.state.layout) (ghost_state race.state) c.as_slice.result.now w (Some order))
    (rest_is n c.args.texts.now)
    (subst
    (IsExplained (layout_of race.state.layout)
    (ghost_state race.state) c.as_slice.result.now _) c.in-Ok-Some.field-0-is
    c.in-Ok-Some.ensures.order)) tells) c.order_reported.ensures

pub returns-in-Ok-None : goal.returns-in-Ok-None
returns-in-Ok-None g c =
    let race = c.args.race.now in
    let n = c.in_order-count.result in
    mapped c.none_told.result _ _
    (λ t tells m made. none_tells m
    (course_in c.args.course.now) race c.as_slice.result.now c.as_slice.ensures.value c.args.texts.now n
    c.in_order-count.ensures made c.args.limit t
    (subst (λ w. IsExplained (layout_of race.state.layout) (ghost_state race.state) c.as_slice.result.now w None)
    (rest_is n c.args.texts.now)
    (subst
    (IsExplained (layout_of race.state.layout)
    (ghost_state race.state) c.as_slice.result.now _) c.in-Ok-None.field-0-is
    c.in-Ok-None.ensures.order)) tells) c.none_told.ensures

pub returns-in-Err : goal.returns-in-Err
returns-in-Err g c =
    let race = c.args.race.now in
    let n = c.in_order-count.result in
    mapped c.too_many.result _ _
    (λ t tells m made. behind_many m
    (course_in c.args.course.now) race c.as_slice.result.now c.as_slice.ensures.value c.args.texts.now n
    c.in_order-count.ensures made c.args.limit t c.in-Err.fault
    (subst
    (λ w. IsOutcomesFault (layout_of race.state.layout)
    (ghost_state race.state) c.as_slice.result.now w c.args.limit c.in-Err.fault)
    (rest_is n c.args.texts.now) c.in-Err.ensures.fault) tells) c.too_many.ensures

pub too_many-requires : goal.too_many-requires
too_many-requires g c =
    let race = c.args.race.now in
    let few = c.requires.ready.few in
    let same = ap length c.as_slice.ensures.value in
    none_last (layout_of race.state.layout) (ghost_state race.state) c.as_slice.result.now
    (1 + length (first_of (course_in c.args.course.now))) _ c.args.limit c.in-Err.fault (omega arith)
    (omega (arith, few, same)) c.requires.ready.low c.in-Err.ensures.fault
