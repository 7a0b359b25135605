-- A trace of known bytes that was expanded, or recorded.
use Rattle.std.proofs.Common.{◌≡◌, ℕ, List, Option, Some, None, Result, subst}
use Rattle.std.specs.Global.{Global}
use Rattle.std.specs.Prelude.{IfSome}
use Rattle.trace_faults.specs.Spots.{Told}
use Rattle.trace_reader.specs.declared.outcome.Outcome.{Outcome}
use Rattle.trace_values.specs.Checked.{IsValueRecord}
use Rattle.trace_values.specs.Expansions.{IsExpansion}
use Rattle.trace_cli.specs.Status.{HasExpanded, HasRecorded, outcome_of_text}

pub expanded_by : (bytes : Option (List ℕ)) (trace given : List ℕ) (told : Result (List ℕ) Told) (outcome : Outcome)
    → IfSome bytes (λ all. trace ≡ all)
    → given ≡ trace
    → IsExpansion Global given told
    → outcome ≡ outcome_of_text told → HasExpanded bytes outcome
expanded_by None trace given told outcome is same h ends = tt
expanded_by (Some all) trace given told outcome is same h ends = (
  told,
  subst (λ t. IsExpansion Global t told) is (subst (λ t. IsExpansion Global t told) same h),
  ends,
)

pub recorded_by : (bytes : Option (List ℕ)) (trace given : List ℕ) (told : Result (List ℕ) Told) (outcome : Outcome)
    → IfSome bytes (λ all. trace ≡ all)
    → given ≡ trace
    → IsValueRecord Global given told
    → outcome ≡ outcome_of_text told → HasRecorded bytes outcome
recorded_by None trace given told outcome is same h ends = tt
recorded_by (Some all) trace given told outcome is same h ends = (
  told,
  subst (λ t. IsValueRecord Global t told) is (subst (λ t. IsValueRecord Global t told) same h),
  ends,
)
