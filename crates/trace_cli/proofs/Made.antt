-- A trace that was made, or why none was.
use Rattle.std.proofs.Common.{◌≡◌, ℕ, List, Option, Result, Ok, Err, inl, inr}
use Rattle.std.specs.Prelude.{IfOk, IfErr, MatchResult}
use Rattle.trace_generate.specs.declared.options.GenerateFault.{GenerateFault}
use Rattle.trace_generate.specs.declared.options.Options.{Options}
use Rattle.trace_generate.specs.Machine.{IsFault}
use Rattle.trace_generate.specs.Made.{IsTrace}
use Rattle.trace_cli.specs.Status.{IsMade, IsPut, status_of_fault}

pub made_by : {X : Type 0} (bytes : X → List ℕ) (r : Result X GenerateFault) (steps : ℕ) (o : Options)
    (old new : Option (List ℕ)) (status : ℕ)
    → IfOk r (λ x. IsTrace steps o (bytes x))
    → IfErr r (λ f. IsFault f steps o)
    → MatchResult r (λ x. IsPut (bytes x) old new status) (λ f. status ≡ status_of_fault f)
    → IsMade steps o old new status
made_by bytes (Ok x) steps o old new status trace fault told = inl (bytes x, trace, told)
made_by bytes (Err f) steps o old new status trace fault told = inr (f, fault, told)
