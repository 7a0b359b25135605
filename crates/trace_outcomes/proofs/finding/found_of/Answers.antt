use Rattle.std.proofs.Common.{◌+◌, ap, arith, length, refl, subst}
use Rattle.page_state.specs.LayoutView.{layout_of}
use Rattle.ghost_spec.specs.States.{ghost_state}
use Rattle.race_outcomes.specs.Orders.{AllOutcomes, IsOutcomesFault}
use Rattle.trace_text.proofs.ReplayLemmas.{mapped}
use Rattle.trace_race.specs.Courses.{course_in}
use Rattle.trace_outcomes.specs.Races.{first_of}
use Rattle.trace_outcomes.proofs.Generated.{none_last}
use Rattle.trace_outcomes.proofs.Tells.{all_found, many_found}
use Rattle.trace_outcomes.proofs.Turns.{rest_is}
use Rattle.trace_outcomes.proofs.finding.found_of.Goals as goal

pub returns-in-Ok : goal.returns-in-Ok
returns-in-Ok g c m made =
    let race = c.args.race in
    let n = c.in_order-count.result in
    let found = c.in-Ok.found.items in
    all_found m
    (course_in c.args.course.now) race c.as_slice.result.now c.as_slice.ensures.value c.args.texts.now n
    c.in_order-count.ensures c.requires.nothing made found
    (record { replies = race.replies; found = c.in-Ok.found }) refl refl c.requires.ready.replies
    (subst (λ w. AllOutcomes (layout_of race.state.layout) (ghost_state race.state) c.as_slice.result.now w found)
    (rest_is n c.args.texts.now) c.in-Ok.ensures.all)

pub returns-in-Err : goal.returns-in-Err
returns-in-Err g c =
    let race = c.args.race in
    let n = c.in_order-count.result in
    mapped c.not_found.result _ _
    (λ f is m made. many_found m
    (course_in c.args.course.now) race c.as_slice.result.now c.as_slice.ensures.value c.args.texts.now n
    c.in_order-count.ensures c.requires.nothing made c.args.limit c.in-Err.fault f
    (subst
    (λ w. IsOutcomesFault (layout_of race.state.layout)
    (ghost_state race.state) c.as_slice.result.now w c.args.limit c.in-Err.fault)
    (rest_is n c.args.texts.now) c.in-Err.ensures.fault) is) c.not_found.ensures

pub not_found-requires : goal.not_found-requires
not_found-requires g c =
    let race = c.args.race in
    let few = c.requires.ready.few in
    let same = ap length c.as_slice.ensures.value in
    none_last (layout_of race.state.layout) (ghost_state race.state) c.as_slice.result.now
    (1 + length (first_of (course_in c.args.course.now))) _ c.args.limit c.in-Err.fault (omega arith)
    (omega (arith, few, same)) c.requires.ready.low c.in-Err.ensures.fault
