-- The exit status of `cover` (profile).
use Rattle.std.specs.Prelude.{◌≡◌, ◌⊎◌, ℕ, ◌==◌, not, ◌&&◌, ◌||◌, Bool, true, false, List, [], ◌∷◌, ◌++◌, Option, Result, Ok, Err, IfOk, IfSome, MatchResult, if◌then◌else◌}
use Rattle.trace_cover.specs.declared.steps.Seen.{Seen}
use Rattle.trace_cover.specs.Steps.{CountsAll}
use Rattle.trace_cover.specs.Told.{missing_of}
use Rattle.trace_reader.specs.Reading.{lines_of}
use Rattle.trace_reader.specs.declared.outcome.Outcome.{Outcome}
use Rattle.trace_reader.specs.declared.outcome.Outcome.TheVariants.{Clean, Disagreed, Fault}

-- a trace ended by a fault
abbrev pub is_faulty : Outcome → Bool
is_faulty Clean = false
is_faulty Disagreed = false
is_faulty Fault = true

-- 2 if a trace has a fault; 1 if the report is of missing rows and some row that can come never
-- came; and else 0
abbrev pub status_of_cover : Bool → Bool → ℕ → ℕ
status_of_cover missing faulty count =
    if faulty then 2 else (if missing && not (count == 0) then 1 else 0)

-- the steps of a file of this name, whose bytes may be known, and how its trace ends
abbrev pub IsOfFile : List ℕ → Option (List ℕ) → List Seen → Outcome → Type 0
IsOfFile path bytes steps outcome =
    IfSome bytes (λ all. (text : List ℕ) × CountsAll path (lines_of all) steps text outcome)

-- they are added to some
abbrev pub AddsSteps : List ℕ → Option (List ℕ) → List Seen → List Seen → Outcome → Type 0
AddsSteps path bytes before after outcome =
    (steps : List Seen) × IsOfFile path bytes steps outcome × (after ≡ before ++ steps)

-- so, or a read or memory failed, and the status is 1
abbrev pub AddsOpened : List ℕ → Option (List ℕ) → List Seen → List Seen → Result Outcome ℕ → Type 0
AddsOpened path bytes before after result =
    MatchResult result (λ outcome. AddsSteps path bytes before after outcome) (λ status. status ≡ 1)

-- what steps have tried was written, or a write or memory failed
abbrev pub IsReportedStatus : Bool → Bool → List Seen → ℕ → Type 0
IsReportedStatus missing faulty seen status =
    (status ≡ status_of_cover missing faulty (missing_of seen)) ⊎ (status ≡ 1)

-- by what opening a path may come to
module _ {F E : Type 0} (bytes : F → Option (List ℕ)) (opens : List ℕ → Result F E → Type 0) where
  -- of a file at a path: 2 if it can't be opened
  abbrev pub AddsFile : List ℕ → List Seen → List Seen → Result Outcome ℕ → Type 0
  AddsFile path before after result =
      (opened : Result F E)
      × opens path opened
      × MatchResult opened (λ file. AddsOpened path (bytes file) before after result)
      (λ _. result ≡ Err 2)

  -- one file after another: the steps of all, and whether one of them has a fault
  abbrev pub AreOfFiles : List (List ℕ) → List Seen → Bool → Type 0
  AreOfFiles [] seen faulty = (seen ≡ []) × (faulty ≡ false)
  AreOfFiles (path ∷ more) seen faulty =
      (file : F)
      × (own : List Seen)
      × (outcome : Outcome)
      × (others : List Seen)
      × (rest : Bool)
      × opens path (Ok file)
      × IsOfFile path (bytes file) own outcome
      × AreOfFiles more others rest
      × (seen ≡ own ++ others) × (faulty ≡ (is_faulty outcome || rest))

  -- all files were read, and the status is that of their steps
  pub record IsCovered (missing : Bool) (paths : List (List ℕ)) (status : ℕ) : Type 0 where
    pub seen : List Seen
    pub faulty : Bool
    pub files : AreOfFiles paths seen faulty
    pub told : status ≡ status_of_cover missing faulty (missing_of seen)

  -- one of the files can't be opened
  pub record IsUnopened (paths : List (List ℕ)) (status : ℕ) : Type 0 where
    pub before : List (List ℕ)
    pub path : List ℕ
    pub after : List (List ℕ)
    pub error : E
    pub one : paths ≡ before ++ path ∷ after
    pub opened : opens path (Err error)
    pub told : status ≡ 2

  -- or reading, writing or memory failed
  abbrev pub HasCoverStatus : Bool → List (List ℕ) → ℕ → Type 0
  HasCoverStatus missing paths status =
      IsCovered missing paths status ⊎ IsUnopened paths status ⊎ (status ≡ 1)
