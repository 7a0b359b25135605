-- The page at which two runs part.
use Rattle.std.specs.Prelude.{◌≡◌, ℕ, ◌+◌, min, Bool, ◌==◌, Option, Some, None, if◌then◌else◌, MatchOption}
use Rattle.run_list.specs.declared.run.Run.{Run}
use Rattle.ghost_judge.specs.Apart.{IsFirstApart}

-- the first page that only one of two runs has, or to which they give other values; None if the
-- runs are equal
abbrev pub parted_at : {V : Type 0} → (V → V → Bool) → Run V → Run V → Option ℕ
parted_at same r s =
    if r.pages.first.0 == s.pages.first.0
    then (if same r.value s.value
    then (if r.pages.count == s.pages.count then None
    else Some (r.pages.first.0 + min r.pages.count s.pages.count))
    else Some r.pages.first.0)
    else Some (min r.pages.first.0 s.pages.first.0)

-- the first number at which two functions differ; None if they agree everywhere
abbrev pub IsFoundApart : {X : Type 0} → (ℕ → X) → (ℕ → X) → Option ℕ → Type 0
IsFoundApart f g o = MatchOption o ((n : ℕ) → f n ≡ g n) (IsFirstApart f g)
