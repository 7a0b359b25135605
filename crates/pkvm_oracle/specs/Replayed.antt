-- What a replay answers C.
use Rattle.std.specs.Prelude.{◌≡◌, ◌⊎◌, ◌<◌, ◌≤◌, ℕ, ℤ, pos, negsuc, List, [], length, take, drop, Some}
use Rattle.trace_reader.specs.declared.outcome.Outcome.{Outcome}
use Rattle.trace_reader.specs.declared.outcome.Outcome.TheVariants.{Clean, Disagreed, Fault}
use Rattle.trace_text.specs.Oracles.{agreed}
use Rattle.trace_text.specs.Replay.{IsBegun, IsReplayed}

-- the status of an outcome
abbrev pub status_of : Outcome → ℤ
status_of Clean = pos 0
status_of Disagreed = pos 1
status_of Fault = pos 2

-- the bytes written are the report of the trace, and the status is its outcome's
pub record Replays (trace old new : List ℕ) (written : ℕ) (status : ℤ) : Type 0 where
  pub outcome : Outcome
  pub status_is : status ≡ status_of outcome
  pub report : IsReplayed agreed (Some trace) (Some []) (Some (take written new)) outcome
  pub inside : written ≤ length new
  pub behind : drop written new ≡ drop written old

-- the report has no room: its front was written, and the answer has its length in bytes
pub record HasNoRoom (trace old new : List ℕ) (written : ℕ) (status : ℤ) : Type 0 where
  pub outcome : Outcome
  pub all : List ℕ
  pub status_is : status ≡ negsuc 1
  pub report : IsReplayed agreed (Some trace) (Some []) (Some all) outcome
  pub count : written ≡ length all
  pub less : length old < written
  pub front : new ≡ take (length old) all

-- memory was refused: the bytes written are a front of a beginning of the report
pub record BreaksOff (trace old new : List ℕ) (written : ℕ) (status : ℤ) : Type 0 where
  pub all : List ℕ
  pub status_is : status ≡ negsuc 11
  pub begun : IsBegun agreed (Some trace) (Some []) (Some all)
  pub front : take written new ≡ take written all
  pub inside : written ≤ length new
  pub behind : drop written new ≡ drop written old

-- one of these
abbrev pub IsAnswered : List ℕ → List ℕ → List ℕ → ℕ → ℤ → Type 0
IsAnswered trace old new written status =
    Replays trace old new written status
    ⊎ (HasNoRoom trace old new written status ⊎ BreaksOff trace old new written status)
