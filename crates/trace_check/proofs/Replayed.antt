-- What is told of lines is a replay's report.
use Rattle.std.proofs.Common.{refl, sym, subst, arith, ℕ, ◌+◌, List, [], ◌∷◌, ◌++◌, Ok, Err, append_assoc}
use Rattle.trace_reader.specs.declared.outcome.Outcome.TheVariants as outcomes
use Rattle.trace_text.specs.declared.report.ReportLine.{ReportLine}
use Rattle.trace_text.specs.declared.session.Stop.TheVariants as stops
use Rattle.trace_text.specs.Replay.{end_line, outcome_of}
use Rattle.trace_text.specs.Session.{Standing, at_start}
use Rattle.trace_check.specs.Laws.{IsReplayReported, ReportedIsReplayed, reported_by}
use Rattle.trace_check.specs.Runs.{Runs}

replayed : (lines : List (List ℕ)) (number : ℕ) (old : Standing) (told : List (List ReportLine))
    → Runs number old lines told
    → IsReplayReported number old lines told
replayed [] number old told runs =
    subst (IsReplayReported number old []) (sym runs)
    (record {
      last = end_line old
          ∷ [];
      few = omega arith;
      outcome = outcome_of old.disagreements;
      report = (refl, refl);
    })
replayed (line ∷ rest) number old told (Err (stops.Fault fault), new, at, tells) =
    subst (IsReplayReported number old (line ∷ rest)) (sym tells)
    (record {
      last = [];
      few = omega arith;
      outcome = outcomes.Fault;
      report = (Err (stops.Fault fault), new, at, (refl, refl));
    })
replayed (line ∷ rest) number old told (Err stops.NoMemory, new, at, tells) = absurd tells
replayed (line ∷ rest) number old told (Ok reported, new, at, (more, is, runs)) =
    let r = replayed rest (number + 1) new more runs in
    subst (IsReplayReported number old (line ∷ rest)) (sym is)
    (record {
      last = r.last;
      few = r.few;
      outcome = r.outcome;
      report = (
        Ok reported,
        new,
        at,
        (reported_by more ++ r.last, append_assoc reported (reported_by more) r.last, r.report),
      );
    })

pub told_replayed : ReportedIsReplayed
told_replayed lines told runs = replayed lines 1 at_start told runs
