use Rattle.std.proofs.Common.{◌≡◌, ◌∙◌, ap, refl, subst, sym, None, Ok, Err}
use Rattle.trace_reader.specs.declared.outcome.Outcome.TheVariants.{Fault}
use Rattle.trace_reader.specs.Reading.{lines_of}
use Rattle.trace_text.proofs.ReplayLemmas.{mapped}
use Rattle.trace_race.specs.Courses.{course_in}
use Rattle.trace_outcomes.specs.declared.telling.Told.{Told}
use Rattle.trace_outcomes.specs.Noted.{IsReportOf}
use Rattle.trace_outcomes.specs.Races.{no_replies, nothing_wanted, texts_in}
use Rattle.trace_outcomes.specs.Reports.{told_in}
use Rattle.trace_outcomes.specs.Told.{ReportsBy}
use Rattle.trace_outcomes.proofs.Turns.{texts_nothing}
use Rattle.trace_outcomes.proofs.telling.order_of.Goals as goal

pub returns-in-Texts : goal.returns-in-Texts
returns-in-Texts g c =
    let steps = c.args.course.now.steps.items in
    let read =
    subst
    (IsReportOf
    (told_in c.args.name.now c.as_slice-2.result.now 1 (texts_in c.in_ok-texts.texts.items)
    (lines_of c.args.report.now))) c.in-Texts.is c.in_ok-texts-2.ensures.told in
    let told : told_in c.args.name.now steps 1 (no_replies steps) (lines_of c.args.report.now) ≡ Ok (texts_in c.in-Texts.texts.items) =
    sym
    (ap
    (λ xs. told_in c.args.name.now xs 1 (texts_in c.in_ok-texts.texts.items)
    (lines_of c.args.report.now)) c.as_slice-2.ensures.value
    ∙ ap (λ ts. told_in c.args.name.now steps 1 (texts_in ts) (lines_of c.args.report.now))
    (c.in_ok-texts.ensures ∙ ap nothing_wanted c.as_slice.ensures.value)
    ∙ ap (λ ts. told_in c.args.name.now steps 1 ts (lines_of c.args.report.now)) (texts_nothing steps)) ∙ read in
    mapped c.order_by.result _ _
    (λ t tells. subst (λ r. ReportsBy c.args.limit (course_in c.args.course.now) r t) (sym told)
    (subst
    (λ ts. ReportsBy c.args.limit (course_in c.args.course.now)
    (Ok (texts_in ts)) t) c.as_slice-in-Texts.ensures.value tells)) c.order_by.ensures

pub returns-in-Fault : goal.returns-in-Fault
returns-in-Fault g c =
    let steps = c.args.course.now.steps.items in
    let read =
    subst
    (IsReportOf
    (told_in c.args.name.now c.as_slice-2.result.now 1 (texts_in c.in_ok-texts.texts.items)
    (lines_of c.args.report.now))) c.in-Fault.is c.in_ok-texts-2.ensures.told in
    let told : told_in c.args.name.now steps 1 (no_replies steps) (lines_of c.args.report.now) ≡ Err c.in-Fault.text.items =
    sym
    (ap
    (λ xs. told_in c.args.name.now xs 1 (texts_in c.in_ok-texts.texts.items)
    (lines_of c.args.report.now)) c.as_slice-2.ensures.value
    ∙ ap (λ ts. told_in c.args.name.now steps 1 (texts_in ts) (lines_of c.args.report.now))
    (c.in_ok-texts.ensures ∙ ap nothing_wanted c.as_slice.ensures.value)
    ∙ ap (λ ts. told_in c.args.name.now steps 1 ts (lines_of c.args.report.now)) (texts_nothing steps)) ∙ read in
    let said : Told = record { text = c.in-Fault.text; outcome = Fault; fault = None } in
    subst (λ r. ReportsBy c.args.limit (course_in c.args.course.now) r said) (sym told)
    (record { text_is = refl; outcome_is = refl; fault_is = refl })
