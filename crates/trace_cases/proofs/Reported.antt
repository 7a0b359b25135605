-- What is told of lines, and found behind them, is an audit's report.
use Rattle.std.proofs.Common.{refl, sym, subst, arith, ℕ, ◌+◌, List, [], ◌∷◌, ◌++◌, length, Option, Ok, Err, append_assoc}
use Rattle.ghost_judge.specs.declared.disagreement.Disagreement.{Disagreement}
use Rattle.trace_reader.specs.declared.outcome.Outcome.TheVariants as outcomes
use Rattle.trace_text.specs.declared.report.ReportLine.{ReportLine}
use Rattle.trace_text.specs.declared.report.ReportLine.TheVariants as report
use Rattle.trace_text.specs.declared.session.Stop.TheVariants as stops
use Rattle.trace_text.specs.Oracles.{audited_lines}
use Rattle.trace_text.specs.Replay.{outcome_of}
use Rattle.trace_audit.specs.Audited.{Audited, nothing_audited}
use Rattle.trace_check.specs.Laws.{reported_by}
use Rattle.trace_cases.specs.Audits.{Runs}
use Rattle.trace_cases.specs.Laws.{AuditIsReported, IsReported}

module _ {A : Type 0} where
  reported : (lines : List (List ℕ)) (number : ℕ) (old : Audited A) (told : List (List ReportLine))
      (found : Option Disagreement)
      → Runs number old lines told found
      → IsReported A number old lines told found
  reported [] number old told found runs =
      subst (λ ts. IsReported A number old [] ts found) (sym runs.0)
      (record {
        last = report.End old.session.steps (length (audited_lines found))
            ∷ [];
        few =
            omega arith;
        outcome = outcome_of (length (audited_lines found));
        report = (found, runs.1, refl, refl);
      })
  reported (line ∷ rest) number old told found (Err (stops.Fault fault), new, at, tells) =
      subst (λ ts. IsReported A number old (line ∷ rest) ts found) (sym tells.0)
      (subst (IsReported A number old (line ∷ rest) ((report.Fault number fault ∷ []) ∷ [])) (sym tells.1)
      (record {
        last = [];
        few = omega arith;
        outcome = outcomes.Fault;
        report = (Err (stops.Fault fault), new, at, (refl, refl));
      }))
  reported (line ∷ rest) number old told found (Err stops.NoMemory, new, at, tells) = absurd tells
  reported (line ∷ rest) number old told found (Ok told_now, new, at, (more, is, runs)) =
      let r = reported rest (number + 1) new more found runs in
      subst (λ ts. IsReported A number old (line ∷ rest) ts found) (sym is)
      (record {
        last = r.last;
        few = r.few;
        outcome = r.outcome;
        report = (
          Ok told_now,
          new,
          at,
          (
            reported_by more
                ++ (audited_lines found ++ r.last),
            append_assoc told_now (reported_by more) (audited_lines found ++ r.last),
            r.report,
          ),
        );
      })

  pub audit_reported : AuditIsReported A
  audit_reported lines told found runs = reported lines 1 nothing_audited told found runs
