-- A trace with one watch or more.
use Rattle.std.proofs.Common.{◌≡◌, ℕ, ◌==◌, true, false, List, [], ◌∷◌, length, map, Ok}
use Rattle.trace_check.specs.declared.checking.Checked.{Checked}
use Rattle.trace_watches.specs.Checked.{ChecksWatched, IsWatched}
use Rattle.trace_watches.specs.Watches.{Watch}

none : true ≡ false → ⊥
none e = let bad = e in cc

pub listed : {X : Type 0} (A : Type 0) (name plain : List ℕ) (checked : Checked) (view : X → Watch) (xs : List X)
    → (length xs == 0) ≡ false
    → IsWatched A name plain (map view xs) checked
    → ChecksWatched A name plain (Ok (map view xs)) checked
listed A name plain checked view [] e h = absurd (none e)
listed A name plain checked view (x ∷ xs) e h = h
