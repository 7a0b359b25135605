-- Outcomes of a trace of known bytes, and an order that gives a report of known bytes.
use Rattle.std.proofs.Common.{◌≡◌, ◌∙◌, ℕ, List, Option, Some, None, subst}
use Rattle.std.specs.Prelude.{IfSome}
use Rattle.trace_reader.specs.Reading.{lines_of}
use Rattle.trace_reader.specs.declared.outcome.Outcome.{Outcome}
use Rattle.trace_race.specs.Courses.{course_of, nothing_asked}
use Rattle.trace_outcomes.specs.Told.{ReportsOutcomes, AnswersReport}
use Rattle.trace_outcomes.specs.declared.telling.Told.{Told}
use Rattle.trace_cli.specs.Status.{HasOrder, HasOutcomes}

pub outcomes_by : (bytes : Option (List ℕ)) (limit : ℕ) (trace given : List ℕ) (told : Told) (outcome : Outcome)
    → IfSome bytes (λ all. trace ≡ all)
    → given ≡ trace
    → ReportsOutcomes limit (course_of 1 nothing_asked (lines_of given)) told
    → outcome ≡ told.outcome
    → HasOutcomes limit bytes outcome
outcomes_by None limit trace given told outcome is same tells ends = tt
outcomes_by (Some all) limit trace given told outcome is same tells ends =
    record {
      told = told;
      tells =
          subst (λ t. ReportsOutcomes limit (course_of 1 nothing_asked (lines_of t)) told) (same ∙ is) tells;
      ends =
          ends;
    }

pub order_by : (bytes reported : Option (List ℕ)) (name : List ℕ) (limit : ℕ) (trace given report read : List ℕ)
    (told : Told) (outcome : Outcome)
    → IfSome bytes (λ all. trace ≡ all)
    → given ≡ trace
    → IfSome reported (λ all. report ≡ all)
    → read ≡ report
    → AnswersReport name (lines_of read) limit (course_of 1 nothing_asked (lines_of given)) told
    → outcome ≡ told.outcome
    → HasOrder name limit bytes reported outcome
order_by None reported name limit trace given report read told outcome is same was_read alike tells ends = tt
order_by (Some all) None name limit trace given report read told outcome is same was_read alike tells ends = tt
order_by (Some all) (Some said) name limit trace given report read told outcome is same was_read alike tells ends =
    let whole =
    subst (λ t. AnswersReport name (lines_of read) limit (course_of 1 nothing_asked (lines_of t)) told)
    (same ∙ is) tells in
    record {
      told = told;
      tells =
          subst (λ r. AnswersReport name (lines_of r) limit (course_of 1 nothing_asked (lines_of all)) told)
          (alike ∙ was_read) whole;
      ends = ends;
    }
