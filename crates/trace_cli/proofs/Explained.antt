-- A trace of known bytes that was explained.
use Rattle.std.proofs.Common.{◌≡◌, ◌∙◌, ℕ, List, Option, Some, None, subst}
use Rattle.std.specs.Prelude.{IfSome}
use Rattle.trace_reader.specs.Reading.{lines_of}
use Rattle.trace_reader.specs.declared.outcome.Outcome.{Outcome}
use Rattle.trace_explain.specs.Explained.{ExplainsAll}
use Rattle.trace_cli.specs.Status.{HasExplained}

pub explained_by : (bytes : Option (List ℕ)) (path : List ℕ) (line : Option ℕ) (trace given text : List ℕ)
    (outcome : Outcome)
    → IfSome bytes (λ all. trace ≡ all)
    → given ≡ trace
    → ExplainsAll line path (lines_of given) text outcome → HasExplained path line bytes outcome
explained_by None path line trace given text outcome is same h = tt
explained_by (Some all) path line trace given text outcome is same h =
    (text, subst (λ t. ExplainsAll line path (lines_of t) text outcome) (same ∙ is) h)
