-- What code holds, in the words of counts.
use Rattle.std.proofs.Common.{Bor}
use Rattle.std.specs.Prelude.{◌≡◌, ℕ, ◌+◌, List, ◌++◌, Option, Some, None, Ok, Err}
use Rattle.trace_cover.specs.declared.steps.Seen.{Seen}
use Rattle.trace_cover.specs.Steps.{CountsAll, seen_at}
use Rattle.trace_reader.specs.declared.outcome.Outcome.{Outcome}
use Rattle.trace_text.specs.declared.fault.Fault.{Fault}
use Rattle.trace_text.specs.declared.report.ReportLine.{ReportLine}
use Rattle.trace_text.specs.declared.session.Session.{Session}
use Rattle.trace_text.specs.declared.session.Stop.{Stop}
use Rattle.trace_text.specs.declared.session.Stop.TheVariants as stops
use Rattle.trace_text.specs.ByPlace.{line_at}
use Rattle.trace_text.specs.Oracles.{agreed}
use Rattle.trace_text.specs.Replay.{IsPlayed}
use Rattle.trace_text.specs.Session.{Standing}
use Rattle.trace_text.specs.View.{standing_of}

-- the steps of a trace's lines are added to some, and the place of its fault to a text
pub record AddsAll (name : List ℕ) (lines : List (List ℕ)) (before : List Seen) (said : List ℕ)
    (after : List Seen) (told : List ℕ) (outcome : Outcome) : Type 0 where
  pub steps : List Seen
  pub text : List ℕ
  pub counts : CountsAll name lines steps text outcome
  pub seen : after ≡ before ++ steps
  pub says : told ≡ said ++ text

-- a line was carried out, and its step is added; or it has a fault, and nothing is added
abbrev pub IsCounted : ℕ → List ℕ → Standing → List Seen → Standing → List Seen → Option Fault
    → Type 0
IsCounted number line old before new after None =
    (reported : List ReportLine)
    × IsPlayed agreed number line old (Ok reported) new
    × (after ≡ before ++ seen_at old line reported)
IsCounted number line old before new after (Some fault) =
    IsPlayed agreed number line old (Err (stops.Fault fault)) new × (after ≡ before)

-- the same of a session, and of the line at a place
abbrev pub IsCountedAt : {A : Type 0}
    → List (Bor (List ℕ))
    → ℕ
    → Session A
    → List Seen
    → Session A
    → List Seen
    → Option Fault
    → Type 0
IsCountedAt lines place old before new after fault =
    IsCounted (place + 1) (line_at lines place) (standing_of old) before
    (standing_of new) after fault
