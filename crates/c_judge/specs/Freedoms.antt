-- The freedoms that a layout's number says.
use Rattle.std.specs.Prelude.{◌≡◌, ◌≢◌, ◌≤◌, ◌<◌, ◌/◌, ◌%◌, ◌==◌, ℕ, Option, Some, None}
use Rattle.freedoms.specs.declared.Freedoms.{Freedoms}
use Rattle.c_judge.specs.declared.wanted.FreedomsFault.{FreedomsFault}
use Rattle.c_judge.specs.declared.wanted.FreedomsFault.TheVariants.{Unknown, WithoutOwnTables}

-- those of the bits 1 to 3
abbrev pub freedoms_from_c : ℕ → Freedoms
freedoms_from_c n =
    record { lazy_host = n / 2 % 2 == 1; any_kind = n / 4 % 2 == 1; any_refusal = n / 8 % 2 == 1 }

-- none at 0; else bit 0 is there, and none beyond bit 3
abbrev pub IsTakenAs : ℕ → Option Freedoms → Type 0
IsTakenAs n None = n ≡ 0
IsTakenAs n (Some w) = (n < 16) × (n % 2 ≡ 1) × (w ≡ freedoms_from_c n)

-- why they are refused: the first that is true
abbrev pub IsFreedomsFault : ℕ → FreedomsFault → Type 0
IsFreedomsFault n Unknown = 16 ≤ n
IsFreedomsFault n WithoutOwnTables = (n < 16) × (n ≢ 0) × (n % 2 ≡ 0)
