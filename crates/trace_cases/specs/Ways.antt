-- The way to carry a trace out, by its lines (profile).
use Rattle.std.specs.Prelude.{ℕ, Bool, List, codes, nat_eq, position, Option}
use Rattle.std.specs.List.{list_any, starts_with}

-- a line that begins as a poke does
abbrev pub is_poke : List ℕ → Bool
is_poke line = starts_with nat_eq line (codes "poke")

-- lines of which one does
abbrev pub has_poke : List (List ℕ) → Bool
has_poke lines = list_any is_poke lines

-- a line that begins as `start` does
abbrev pub is_start : List ℕ → Bool
is_start line = starts_with nat_eq line (codes "start")

-- how many lines are before the first that does, if one does
abbrev pub start_at : List (List ℕ) → Option ℕ
start_at lines = position is_start lines
