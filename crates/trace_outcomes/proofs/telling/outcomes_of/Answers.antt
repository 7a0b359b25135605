use Rattle.std.proofs.Common.{subst}
use Rattle.trace_text.proofs.ReplayLemmas.{mapped}
use Rattle.trace_race.specs.Courses.{course_in}
use Rattle.trace_outcomes.specs.Finds.{Finds}
use Rattle.trace_outcomes.proofs.FoundTold.{all_told, fault_reported, found_count, idle_told, many_told}
use Rattle.trace_outcomes.proofs.telling.outcomes_of.Goals as goal

pub returns-in-Idle : goal.returns-in-Idle
returns-in-Idle g c =
    mapped c.idle.result _ _
    (λ t tells. idle_told c.args.limit (course_in c.args.course.now) t
    (subst
    (Finds c.args.limit (course_in c.args.course.now)) c.in-Idle.is
    c.in_ok-find_outcomes.ensures) tells) c.idle.ensures

pub returns-in-Fault : goal.returns-in-Fault
returns-in-Fault g c =
    mapped c.faulty.result _ _
    (λ t tells. fault_reported c.args.limit (course_in c.args.course.now) t c.in-Fault.line c.in-Fault.fault
    (subst
    (Finds c.args.limit (course_in c.args.course.now)) c.in-Fault.is
    c.in_ok-find_outcomes.ensures) tells) c.faulty.ensures

pub returns-in-TooMany : goal.returns-in-TooMany
returns-in-TooMany g c =
    mapped c.many_told.result _ _
    (λ t tells. many_told c.args.limit (course_in c.args.course.now) t c.in-TooMany.made
    (subst
    (Finds c.args.limit (course_in c.args.course.now)) c.in-TooMany.is
    c.in_ok-find_outcomes.ensures) tells) c.many_told.ensures

pub returns-in-All : goal.returns-in-All
returns-in-All g c =
    mapped c.all_told.result _ _
    (λ t tells. all_told c.args.limit (course_in c.args.course.now) t c.in-All.outcomes
    (subst
    (Finds c.args.limit (course_in c.args.course.now)) c.in-All.is
    c.in_ok-find_outcomes.ensures) tells) c.all_told.ensures

pub all_told-requires-clause-count : goal.all_told-requires-clause-count
all_told-requires-clause-count g c =
    found_count c.args.limit (course_in c.args.course.now) c.in-All.outcomes
    (subst (Finds c.args.limit (course_in c.args.course.now)) c.in-All.is c.in_ok-find_outcomes.ensures)
