-- A trace of known bytes that was checked.
use Rattle.std.proofs.Common.{◌≡◌, ℕ, List, Option, Some, None, subst}
use Rattle.std.specs.Global.{Global}
use Rattle.std.specs.Prelude.{IfSome}
use Rattle.trace_reader.specs.declared.outcome.Outcome.{Outcome}
use Rattle.trace_check.specs.declared.checking.Checked.{Checked}
use Rattle.trace_cli.specs.Status.{HasChecked, outcome_of_check}
use Rattle.trace_watches.specs.Checked.{IsWatchChecked}

pub checked_by : (bytes : Option (List ℕ)) (path trace given : List ℕ) (checked : Checked) (outcome : Outcome)
    → IfSome bytes (λ all. trace ≡ all)
    → given ≡ trace
    → IsWatchChecked Global path given checked
    → outcome ≡ outcome_of_check checked.clean → HasChecked path bytes outcome
checked_by None path trace given checked outcome is same h told = tt
checked_by (Some all) path trace given checked outcome is same h told = (
  checked,
  subst (λ t. IsWatchChecked Global path t checked) is (subst (λ t. IsWatchChecked Global path t checked) same h),
  told,
)
