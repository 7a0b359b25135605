-- What the end of a report tells of legality.
use Rattle.std.proofs.Common.{◌≡◌, ℕ, refl, subst, List, Option, Some, None, MatchOption, IfSome, inl, inr}
use Rattle.std.specs.Prelude.{◌↔◌, ◌⊎◌}
use Rattle.ghost_judge.specs.declared.disagreement.Disagreement.{Disagreement}
use Rattle.ghost_legal.specs.declared.finding.Unlawful.{Unlawful}
use Rattle.ghost_legal.specs.Unlawful.{IsUnlawful, MakesLegal}
use Rattle.ghost_spec.specs.declared.lists.GhostLists.{GhostLists}
use Rattle.trace_text.specs.declared.report.ReportLine.{ReportLine}
use Rattle.trace_audit.specs.Audited.{IsRawWalk, IsWalkOf, TellsWalk, told_lines}
use Rattle.trace_audit.specs.Laws.{LegalReports, ReportsIllegal, ReportsLegal}

legal_by : (steps : ℕ) (found : Option Disagreement) (lines : List ReportLine) (why : Option Unlawful)
    (walked : GhostLists)
    → ((why ≡ None) ↔ MakesLegal walked)
    → IfSome why (IsUnlawful walked)
    → lines ≡ told_lines steps found why
    → ReportsLegal steps found lines walked ⊎ ReportsIllegal steps found lines walked
legal_by steps found lines None walked none some e = inl (record { lines_are = e; legal = none.0 refl })
legal_by steps found lines (Some why) walked none some e =
    inr
    (record {
      why = why;
      lines_are = e;
      illegal = λ legal. absurd (let k = none.1 legal in cc);
      told = some;
    })

pub legal_reports : {A : Type 0} → LegalReports A
legal_reports a world lines outcome poked h =
    let t : TellsWalk (IsRawWalk world.parts) h.1 =
    subst
    (λ p. MatchOption p
    (MatchOption a.session.machine (h.1 ≡ None) (λ m. TellsWalk (IsWalkOf m) h.1))
    (λ w. TellsWalk (IsRawWalk w.parts) h.1)) poked h.3 in (
      h.0,
      t.walked,
      h.2,
      t.walked_is,
      legal_by a.session.steps h.0 lines h.1 t.walked t.none t.some h.4,
    )
