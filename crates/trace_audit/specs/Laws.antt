-- Laws of audits.
use Rattle.std.specs.Prelude.{◌≡◌, ◌⊎◌, ℕ, List, [], ◌∷◌, All, Option, Some, None, Ok, IfSome}
use Rattle.page_state.specs.LayoutView.{layout_of}
use Rattle.ghost_judge.specs.declared.disagreement.Disagreement.{Disagreement}
use Rattle.ghost_judge.specs.Audits.{AuditAgrees, IsFirstDifference}
use Rattle.ghost_oracle.specs.declared.raw.RawParts.{RawParts}
use Rattle.ghost_oracle.specs.declared.raw.Which.{Which}
use Rattle.ghost_oracle.specs.declared.trees.Source.TheVariants.{Maplets, Words}
use Rattle.ghost_oracle.specs.Found.{scratch_rows}
use Rattle.ghost_oracle.specs.Poked.{Beside, IsBeside, parts_trees, raw_beside_of, raw_trees}
use Rattle.ghost_oracle.specs.RawFound.{IsRawFound, HasSameRawRows}
use Rattle.ghost_oracle.specs.Seen.{SeenTree}
use Rattle.ghost_legal.specs.declared.finding.Unlawful.{Unlawful}
use Rattle.ghost_legal.specs.Unlawful.{IsUnlawful, MakesLegal}
use Rattle.ghost_spec.specs.declared.lists.GhostLists.{GhostLists}
use Rattle.ghost_spec.specs.declared.state.Ghost.{Ghost}
use Rattle.ghost_spec.specs.States.{contents_in}
use Rattle.trace_lines.specs.Asked.{asked}
use Rattle.trace_lines.specs.declared.place.Verb.TheVariants.{Poke}
use Rattle.trace_words.specs.Words.{words_of}
use Rattle.trace_reader.specs.declared.outcome.Outcome.{Outcome}
use Rattle.trace_text.specs.declared.report.ReportLine.{ReportLine}
use Rattle.trace_text.specs.Laws.{HasNoDisagreement}
use Rattle.trace_text.specs.Oracles.{agreed}
use Rattle.trace_text.specs.Replay as replay
use Rattle.trace_text.specs.Reports.{IsReport}
use Rattle.trace_text.specs.declared.report.ReportLine.TheVariants as report
use Rattle.trace_text.specs.Session.{at_start}
use Rattle.trace_text.specs.View.{machine_of}
use Rattle.world.specs.declared.World.{World}
use Rattle.world.specs.declared.raw.RawWorld.{RawWorld}
use Rattle.trace_audit.specs.Audited.{Audited, Ends, EndsTold, IsAudited, IsRawWalk, RunsLine, found_lines, nothing_audited, told_lines}

-- the words of a line ask for no poke
abbrev pub HasNoPoke : List ℕ → Type 0
HasNoPoke line = IfSome (asked (words_of line)) (λ a. a.verb ≡ Poke → ⊥)

-- a report that is that of a replay whose oracle finds no disagreement
pub record IsReplays (trace : List (List ℕ)) (lines : List ReportLine)
    (outcome : Outcome) : Type 0 where
  pub replay : replay.IsReport agreed 1 at_start trace lines outcome
  pub agrees : HasNoDisagreement lines outcome

-- the audit of a trace without a poke writes the report of its replay, and no disagreement
abbrev pub AuditReplays : Type 0 → Type 0
AuditReplays A =
    (trace : List (List ℕ)) (lines : List ReportLine) (outcome : Outcome)
    → All HasNoPoke trace
    → IsReport (RunsLine {A = A}) Ends 1 nothing_audited trace lines outcome
    → IsReplays trace lines outcome

-- `kept` is what poked parts keep, and `walked` what a walk of all their words finds, with the rows
-- from scratch
pub record AreFoundIn {A : Type 0} (parts : RawParts A) (kept walked : Ghost) : Type 0 where
  pub kept_is : IsRawFound Maplets parts kept
  pub kept_rows : HasSameRawRows parts kept
  pub walked_is : IsRawFound Words parts walked
  pub walked_rows : (f : ℕ)
      → (contents_in walked).shared.row f
      ≡ scratch_rows (layout_of parts.layout) (contents_in walked) f

-- the end of a report has no difference, and there is none
pub record ReportsNone (steps : ℕ) (lines : List ReportLine) (kept walked : Ghost) : Type 0 where
  pub lines_are : lines ≡ report.End steps 0 ∷ []
  pub agrees : AuditAgrees (contents_in kept) (contents_in walked)

-- or it reports the first
pub record ReportsFirst (steps : ℕ) (lines : List ReportLine) (kept walked : Ghost) : Type 0 where
  pub found : Disagreement
  pub lines_are : lines ≡ report.Audited found ∷ report.End steps 1 ∷ []
  pub differs : AuditAgrees (contents_in kept) (contents_in walked) → ⊥
  pub first : IsFirstDifference (contents_in kept) (contents_in walked) found

-- the end of the report of a poked world has a difference exactly if the world's kept state isn't
-- what the walk finds
abbrev pub AuditReports : Type 0 → Type 0
AuditReports A =
    (a : Audited A) (world : RawWorld A) (lines : List ReportLine) (outcome : Outcome)
    → a.poked ≡ Some world
    → Ends a lines outcome
    → (kept : Ghost)
    × (walked : Ghost)
    × AreFoundIn world.parts kept walked
    × (ReportsNone a.session.steps lines kept walked
    ⊎ ReportsFirst a.session.steps lines kept walked)

-- with legality asked for, the end of a report has no line of it, and the walked lists make a legal
-- state
pub record ReportsLegal (steps : ℕ) (found : Option Disagreement) (lines : List ReportLine)
    (walked : GhostLists) : Type 0 where
  pub lines_are : lines ≡ found_lines steps found
  pub legal : MakesLegal walked

-- or it says why they make none
pub record ReportsIllegal (steps : ℕ) (found : Option Disagreement) (lines : List ReportLine)
    (walked : GhostLists) : Type 0 where
  pub why : Unlawful
  pub lines_are : lines ≡ told_lines steps found (Some why)
  pub illegal : MakesLegal walked → ⊥
  pub told : IsUnlawful walked why

-- the end of the report of a poked world has such a line exactly if what a walk of all its words
-- finds isn't legal. All else is as without the question
abbrev pub LegalReports : Type 0 → Type 0
LegalReports A =
    (a : Audited A) (world : RawWorld A) (lines : List ReportLine) (outcome : Outcome)
    → a.poked ≡ Some world
    → EndsTold a lines outcome
    → (found : Option Disagreement)
    × (walked : GhostLists)
    × IsAudited a found
    × IsRawWalk world.parts walked
    × (ReportsLegal a.session.steps found lines walked
    ⊎ ReportsIllegal a.session.steps found lines walked)

-- a poked world has all trees but one of others, and the state beside the trees is as `kept` says
pub record KeepsAllBut {A : Type 0} (trees : Which → SeenTree) (kept : Beside → Type 0)
    (world : RawWorld A) : Type 0 where
  pub which : Which
  pub others : (other : Which) → (other ≡ which → ⊥) → raw_trees world.parts other ≡ trees other
  pub beside : kept (raw_beside_of world.parts)

-- the first line that a poke is leaves all of the machine's world but one tree
abbrev pub FirstKeeps : Type 0 → Type 0
FirstKeeps A =
    (number : ℕ) (line : List ℕ) (old : Audited A) (reported : List ReportLine) (new : Audited A)
    (after : RawWorld A)
    → old.poked ≡ None → new.poked ≡ Some after → RunsLine number line old (Ok reported) new
    → (w : World A)
    × (old.session.machine ≡ Some (machine_of w))
    × KeepsAllBut (parts_trees w.parts) (IsBeside w.parts) after

-- and each later line keeps all of the poked world but one tree
abbrev pub NextKeeps : Type 0 → Type 0
NextKeeps A =
    (number : ℕ) (line : List ℕ) (old : Audited A) (reported : List ReportLine) (new : Audited A)
    (before : RawWorld A)
    → old.poked ≡ Some before → RunsLine number line old (Ok reported) new
    → (after : RawWorld A)
    × (new.poked ≡ Some after)
    × KeepsAllBut (raw_trees before.parts) (λ beside. beside ≡ raw_beside_of before.parts) after
