-- What is missed of the watches of a trace: of each the first step after which it doesn't hold
-- (profile).
use Rattle.std.specs.Prelude.{◌≡◌, ℕ, ◌+◌, true, List, [], ◌∷◌, ◌++◌, codes, Option, Some, None, MatchBool, MatchOption, if◌then◌else◌}
use Rattle.std.specs.Fmt.{decimal}
use Rattle.trace_check.specs.Misses.{Miss, other_words}
use Rattle.trace_watches.specs.Watched.{IsNoted, got_of, is_step, meets}
use Rattle.trace_watches.specs.Watches.{Watch, wanted_of}

-- the miss of a watch after the step on the line of a number
abbrev pub miss_at : Watch → ℕ → Option (List ℕ) → Miss
miss_at w number note = (
  w.number,
  other_words (wanted_of w.line) (got_of note) ++ codes " after line " ++ decimal number,
)

abbrev pub missed_by : Watch → ℕ → Option (List ℕ) → Option Miss
missed_by w number note = if meets w note then None else Some (miss_at w number note)

module _ (A : Type 0) (lines : List (List ℕ)) (w : Watch) where
  -- the watch holds after the step at a place, or this is the miss
  pub record IsTold (place : ℕ) (step : List ℕ) (missed : Option Miss) : Type 0 where
    pub note : Option (List ℕ)
    pub is : IsNoted A lines place step w note
    pub missed_is : missed ≡ missed_by w (place + 1) note

  -- only steps are looked at
  abbrev pub TellsLine : ℕ → List ℕ → Option Miss → Type 0
  TellsLine place line missed = MatchBool (is_step line) (IsTold place line missed) (missed ≡ None)

  -- of lines from a place on the first miss
  abbrev pub TellsFrom : ℕ → List (List ℕ) → Option Miss → Type 0
  TellsFrom place [] missed = missed ≡ None
  TellsFrom place (line ∷ rest) missed =
      (own : Option Miss)
      × TellsLine place line own
      × MatchOption own (TellsFrom (place + 1) rest missed) (λ miss. missed ≡ Some miss)

-- that of a watch, of all lines
abbrev pub Tells : Type 0 → List (List ℕ) → Watch → Option Miss → Type 0
Tells A lines w missed = TellsFrom A lines w 0 lines missed

-- and of each watch, in order
abbrev pub miss_list : Option Miss → List Miss
miss_list None = []
miss_list (Some miss) = miss ∷ []

abbrev pub TellsAll : Type 0 → List (List ℕ) → List Watch → List Miss → Type 0
TellsAll A lines [] missed = missed ≡ []
TellsAll A lines (w ∷ more) missed =
    (own : Option Miss)
    × (others : List Miss)
    × Tells A lines w own
    × TellsAll A lines more others
    × (missed ≡ miss_list own ++ others)

-- that of one watch is added to others'
abbrev pub AddsTold : Type 0 → List (List ℕ) → Watch → List Miss → List Miss → Type 0
AddsTold A lines w old new =
    (own : Option Miss) × Tells A lines w own × (new ≡ old ++ miss_list own)
