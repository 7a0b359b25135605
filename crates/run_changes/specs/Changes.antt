-- The changes between two maps from pages to values that advance.
use Rattle.std.specs.Prelude.{◌≡◌, ℕ, List, Option, Some, None}
use Rattle.std.specs.Option.{ForSome}
use Rattle.run_list.specs.declared.run.Run.{Run}
use Rattle.run_list.specs.Runs.{option_advance, run_map}
use Rattle.run_changes.specs.declared.change.Change.{Change}

-- the change from a value to another: none if they are equal, else both
abbrev pub IsDifference : {V : Type 0} → Option V → Option V → Option (Change V) → Type 0
IsDifference before after None = before ≡ after
IsDifference before after (Some c) = (c.before ≡ before) × (c.after ≡ after) × (before ≡ after → ⊥)

-- both values some pages further on
abbrev pub advance_change : {V : Type 0} → (V → ℕ → V) → Change V → ℕ → Change V
advance_change advance c n =
    record { before = option_advance advance c.before n; after = option_advance advance c.after n }

-- code reaches both values that far
abbrev pub CanBoth : {V : Type 0} → (V → ℕ → Type 0) → Change V → ℕ → Type 0
CanBoth can c n = ForSome c.before (λ v. can v n) × ForSome c.after (λ v. can v n)

-- two values that differ also differ further on
abbrev pub AdvancesApart : {V : Type 0} → (V → ℕ → V) → Type 0
AdvancesApart {V} advance = (v w : V) (n : ℕ) → advance v n ≡ advance w n → v ≡ w

-- the changes between the maps of two lists of runs: both values of each page at which they differ,
-- and no other page
abbrev pub AreChanges : {V : Type 0}
    → (V → ℕ → V)
    → List (Run V)
    → List (Run V)
    → List (Run (Change V))
    → Type 0
AreChanges advance before after found =
    (p : ℕ)
    → IsDifference (run_map advance before p) (run_map advance after p)
    (run_map (advance_change advance) found p)
