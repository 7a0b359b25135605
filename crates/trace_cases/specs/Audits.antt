-- What the lines of a trace report when it is audited (profile).
use Rattle.std.specs.Prelude.{◌≡◌, ℕ, ◌+◌, ◌==◌, Bool, List, [], ◌∷◌, ◌++◌, Option, None, Ok, Err, if◌then◌else◌}
use Rattle.ghost_judge.specs.declared.disagreement.Disagreement.{Disagreement}
use Rattle.trace_words.specs.Words.{is_silent}
use Rattle.trace_text.specs.declared.report.ReportLine.{ReportLine}
use Rattle.trace_text.specs.declared.report.ReportLine.TheVariants as report
use Rattle.trace_text.specs.declared.session.Stop.TheVariants as stops
use Rattle.trace_text.specs.Oracles.{audited_lines}
use Rattle.trace_text.specs.Reports.{IsPlayed}
use Rattle.trace_text.specs.Session.{Answer}
use Rattle.trace_audit.specs.Audited.{Audited, IsAudited, RunsLine, nothing_audited}

-- the place of the last of these lines that isn't silent, counted from a place on, given that of
-- the lines before them
abbrev pub last_from : ℕ → ℕ → List (List ℕ) → ℕ
last_from last place [] = last
last_from last place (line ∷ rest) =
    last_from (if is_silent line then last else place) (place + 1) rest

-- and of all lines, 0 if all are silent
abbrev pub last_spoken_line : List (List ℕ) → ℕ
last_spoken_line lines = last_from 0 0 lines

-- the report of a line, followed by the audit's finding if it is the last
abbrev pub with : Bool → List ReportLine → List ReportLine → List ReportLine
with is_last found reported = if is_last then reported ++ found else reported

-- the reports of lines from a place on, with the audit's finding after the report of the line at
-- the last place
abbrev pub behind : ℕ → ℕ → List ReportLine → List (List ReportLine) → List (List ReportLine)
behind place last found [] = []
behind place last found (reported ∷ more) =
    with (place == last) found reported ∷ behind (place + 1) last found more

-- the reports from a line with this answer on: its report, and then those of the lines after it. A
-- fault is the last report, and then no audit follows
abbrev pub Tells : ℕ → Answer → (List (List ReportLine) → Option Disagreement → Type 0)
    → List (List ReportLine) → Option Disagreement → Type 0
Tells number (Err (stops.Fault fault)) follows told found =
    (told ≡ (report.Fault number fault ∷ []) ∷ []) × (found ≡ None)
Tells number (Err stops.NoMemory) follows told found = ⊥
Tells number (Ok reported) follows told found =
    (more : List (List ReportLine)) × (told ≡ reported ∷ more) × follows more found

module _ {A : Type 0} where
  -- the lines of a trace, from a number on, are carried out as in an audit: each one's report, up
  -- to the first that has a fault, and the finding at the end
  abbrev pub Runs : ℕ → Audited A → List (List ℕ) → List (List ReportLine) → Option Disagreement
      → Type 0
  Runs number old [] told found = (told ≡ []) × IsAudited old found
  Runs number old (line ∷ rest) told found =
      (answer : Answer)
      × (new : Audited A)
      × IsPlayed (RunsLine {A = A}) number line old answer new
      × Tells number answer (λ more last. Runs (number + 1) new rest more last) told found

-- the reports of the lines of a trace, with the finding at the end
pub record IsAuditReported (A : Type 0) (lines : List (List ℕ))
    (told : List (List ReportLine)) : Type 0 where
  pub own : List (List ReportLine)
  pub found : Option Disagreement
  pub runs : Runs {A = A} 1 nothing_audited lines own found
  pub told_is : told ≡ behind 0 (last_spoken_line lines) (audited_lines found) own
