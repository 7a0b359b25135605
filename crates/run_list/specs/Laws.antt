-- Laws of lists of runs, each proved on the contract of the function of its name.
use Rattle.std.specs.Prelude.{◌≡◌, ℕ, ◌≤◌, List, length, None}
use Rattle.run_list.specs.declared.run.Run.{Run}
use Rattle.run_list.specs.Counts.{pages_of}
use Rattle.run_list.specs.Runs.{run_map, IsCoarsest}

-- a map has at most one coarsest list of runs
abbrev pub CoarsestOnce : {V : Type 0} → (V → ℕ → V) → Type 0
CoarsestOnce {V} advance =
    (rs ss : List (Run V))
    → IsCoarsest advance rs
    → IsCoarsest advance ss
    → ((p : ℕ) → run_map advance rs p ≡ run_map advance ss p)
    → rs ≡ ss

-- the coarsest list of a map has no more runs than there are pages with a value
abbrev pub RunsNoMore : {V : Type 0} → (V → ℕ → V) → Type 0
RunsNoMore {V} advance =
    (rs : List (Run V)) (n : ℕ)
    → IsCoarsest advance rs
    → ((p : ℕ) → n ≤ p → run_map advance rs p ≡ None)
    → length rs ≤ pages_of (run_map advance rs) n
