use Rattle.std.proofs.Common.{◌∙◌, List, Option, subst, sym}
use Rattle.std.specs.Global.{Global}
use Rattle.std.specs.Prelude.{Vec, ℕ}
use Rattle.trace_text.proofs.ReplayLemmas.{mapped}
use Rattle.trace_race.specs.Booted.{machine_in}
use Rattle.trace_race.specs.Courses.{course_in}
use Rattle.trace_outcomes.specs.Made.{HasMade}
use Rattle.trace_outcomes.specs.Races.{texts_in}
use Rattle.trace_outcomes.proofs.finding.found_from.Goals as goal

pub returns-in-Ok : goal.returns-in-Ok
returns-in-Ok g c =
    let made =
    subst
    (λ (ts : List (Option (Vec ℕ Global))). HasMade (machine_in c.args.state) (course_in c.args.course.now)
    (texts_in ts) c.in-Ok.race)
    (c.as_slice-2.ensures.value ∙ sym c.as_slice-in-Ok.ensures.value) c.in-Ok.ensures.made in
    mapped c.found_of.result _ _ (λ f finds. finds (machine_in c.args.state) made) c.found_of.ensures
