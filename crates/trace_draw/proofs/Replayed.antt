-- A run that is drawn is a replay's.
use Rattle.std.proofs.Common.{◌≡◌, ◌∙◌, ℕ, zero, suc, ◌+◌, List, [], ◌∷◌, ◌++◌, refl, ap, subst, Ok, Err}
use Rattle.trace_reader.specs.declared.outcome.Outcome.{Outcome}
use Rattle.trace_reader.specs.declared.outcome.Outcome.TheVariants as outcomes
use Rattle.trace_reader.specs.Reading.{lines_of}
use Rattle.trace_text.specs.declared.report.ReportLine.{ReportLine}
use Rattle.trace_text.specs.declared.report.ReportLine.TheVariants as report
use Rattle.trace_text.specs.declared.session.Stop.TheVariants as stops
use Rattle.trace_text.specs.Oracles.{agreed}
use Rattle.trace_text.specs.Replay.{IsReport, end_line, outcome_of}
use Rattle.trace_text.specs.Session.{Standing, at_start}
use Rattle.trace_text.proofs.Agreeing.{trace_agrees}
use Rattle.trace_draw.specs.declared.course.Ended.{Ended}
use Rattle.trace_draw.specs.declared.course.Ended.TheVariants.{Clean, Fault}
use Rattle.trace_draw.specs.Courses.{Leads}
use Rattle.trace_draw.specs.Laws.{RunIsReplayed, outcome_by}

-- the outcome of a report, by where the run ends and how
abbrev pub ends_by : Standing → Ended → Outcome
ends_by new Clean = outcome_of new.disagreements
ends_by new (Fault line fault) = outcomes.Fault

replayed : (lines : List (List ℕ)) (number : ℕ) (old new : Standing) (ended : Ended)
    → Leads number old lines new ended
    → (reported : List ReportLine) × IsReport agreed number old lines reported (ends_by new ended)
replayed [] number old new ended (same, clean) =
    (end_line old ∷ [], (refl, ap (ends_by new) clean ∙ ap (λ (s : Standing). outcome_of s.disagreements) same))
replayed (line ∷ rest) number old new ended (Err (stops.Fault fault), next, played, goes) =
    (report.Fault number fault ∷ [], (Err (stops.Fault fault), next, played, (refl, ap (ends_by new) goes.1)))
replayed (line ∷ rest) number old new ended (Err stops.NoMemory, next, played, goes) = absurd goes
replayed (line ∷ rest) number old new ended (Ok told, next, played, goes) =
    let r = replayed rest (number + 1) next new ended goes in
    (told ++ r.0, (Ok told, next, played, (r.0, refl, r.1)))

no_disagreement : (count : ℕ) → (outcome_of count ≡ outcomes.Disagreed → ⊥) → outcome_of count ≡ outcomes.Clean
no_disagreement zero none = refl
no_disagreement (suc more) none = absurd (none refl)

agrees_by : (trace : List (List ℕ)) (new : Standing) (ended : Ended) (reported : List ReportLine)
    → IsReport agreed 1 at_start trace reported (ends_by new ended)
    → ends_by new ended ≡ outcome_by ended
agrees_by trace new Clean reported r =
    no_disagreement new.disagreements (trace_agrees trace reported (outcome_of new.disagreements) r).outcome_is
agrees_by trace new (Fault line fault) reported r = refl

pub run_is_replayed : RunIsReplayed
run_is_replayed trace standing ended run =
    let r = replayed (lines_of trace) 1 at_start standing ended run in (
      r.0,
      subst (λ outcome. IsReport agreed 1 at_start (lines_of trace) r.0 outcome)
          (agrees_by (lines_of trace) standing ended r.0 r.1) r.1,
    )
