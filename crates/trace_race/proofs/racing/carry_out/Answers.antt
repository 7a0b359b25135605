use Rattle.std.proofs.Common.{inl, inr}
use Rattle.trace_text.proofs.ReplayLemmas.{mapped, when_err}
use Rattle.trace_race.specs.Booted.{machine_in}
use Rattle.trace_race.specs.Courses.{course_in}
use Rattle.trace_race.proofs.Reports.{boot_fails, boot_fault_begins, idle_begins, idle_ends, race_begins, race_ends}
use Rattle.trace_race.proofs.racing.carry_out.Goals as goal

pub returns-in-None-clause-report : goal.returns-in-None-clause-report
returns-in-None-clause-report g c =
    mapped c.report_idle.result _ _
    (λ outcome told. idle_ends c.args.ordered (course_in c.args.course.now) _ _ outcome
    (inl c.in-None.is) told) c.report_idle.ensures.ok

pub returns-in-None-clause-begun : goal.returns-in-None-clause-begun
returns-in-None-clause-begun g c =
    when_err c.report_idle.result _ _
    (λ front. idle_begins c.args.ordered (course_in c.args.course.now) _ _
    (inl c.in-None.is) front) c.report_idle.ensures.front

pub returns-in-None-carve-clause-report : goal.returns-in-None-carve-clause-report
returns-in-None-carve-clause-report g c =
    mapped c.report_idle-in-None-carve.result _ _
    (λ outcome told. idle_ends c.args.ordered (course_in c.args.course.now) _ _ outcome
    (inr c.in-None-carve.is) told) c.report_idle-in-None-carve.ensures.ok

pub returns-in-None-carve-clause-begun : goal.returns-in-None-carve-clause-begun
returns-in-None-carve-clause-begun g c =
    when_err c.report_idle-in-None-carve.result _ _
    (λ front. idle_begins c.args.ordered (course_in c.args.course.now) _ _
    (inr c.in-None-carve.is) front) c.report_idle-in-None-carve.ensures.front

pub returns-in-Ok-clause-report : goal.returns-in-Ok-clause-report
returns-in-Ok-clause-report g c =
    mapped c.run.result _ _
    (λ outcome ends. race_ends c.args.ordered (course_in c.args.course.now) c.in-Some.boot c.in-Some-carve.carve
    (machine_in c.in-Ok.booted.state) _ _ outcome c.in-Some.is c.in-Some-carve.is c.in-Ok.ensures.booted
    ends) c.run.ensures.report

pub returns-in-Ok-clause-begun : goal.returns-in-Ok-clause-begun
returns-in-Ok-clause-begun g c =
    when_err c.run.result _ _
    (λ begins. race_begins c.args.ordered (course_in c.args.course.now) c.in-Some.boot c.in-Some-carve.carve
    (machine_in c.in-Ok.booted.state) _ _ c.in-Some.is c.in-Some-carve.is c.in-Ok.ensures.booted
    begins) c.run.ensures.begun

pub returns-in-Err-clause-report : goal.returns-in-Err-clause-report
returns-in-Err-clause-report g c =
    mapped c.report_stop.result _ _
    (λ outcome told. boot_fails c.args.ordered
    (course_in c.args.course.now) c.in-Some.boot c.in-Some-carve.carve c.in-Err.stop _ _ outcome c.in-Some.is
    c.in-Some-carve.is c.in-Err.ensures told) c.report_stop.ensures.report

pub returns-in-Err-clause-begun : goal.returns-in-Err-clause-begun
returns-in-Err-clause-begun g c =
    when_err c.report_stop.result _ _
    (λ front. boot_fault_begins c.args.ordered
    (course_in c.args.course.now) c.in-Some.boot c.in-Some-carve.carve c.in-Err.stop _ _ c.in-Some.is
    c.in-Some-carve.is c.in-Err.ensures front) c.report_stop.ensures.begun
