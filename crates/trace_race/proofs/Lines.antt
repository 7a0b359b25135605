-- Lines of a report that are told one after another.
use Rattle.std.proofs.Common.{◌≡◌, ℕ, ◌+◌, ◌<◌, ap, subst, ◌∙◌, List, [], ◌∷◌, drop, get_or, length, map, Option}
use Rattle.std.proofs.lemmas.List.{drop_more}
use Rattle.std.specs.Io.KnownBytes.{Appends}
use Rattle.call_table.specs.declared.reply.Reply.{Reply}
use Rattle.ghost_judge.specs.declared.disagreement.Disagreement.{Disagreement}
use Rattle.trace_lines.specs.declared.response.Response.TheVariants as responses
use Rattle.trace_text.specs.declared.report.ReportLine.{ReportLine}
use Rattle.trace_text.specs.declared.report.ReportLine.TheVariants as report
use Rattle.trace_text.specs.Played.{WritesFront}
use Rattle.trace_text.specs.Texts.{text_of_report}
use Rattle.trace_text.proofs.Lined.{Ahead, ahead_one, front_ahead}
use Rattle.trace_race.specs.declared.course.Asked.{Asked}
use Rattle.trace_race.specs.Raced.{step_lines}

-- the next line
pub line_told : (before now next : Option (List ℕ)) (all rest more : List ReportLine) (line : ReportLine)
    → rest ≡ line ∷ more
    → Ahead before now all rest
    → Appends now next (text_of_report (line ∷ []))
    → Ahead before next all more
line_told before now next all rest more line is ahead written =
    ahead_one before now next all more line (subst (Ahead before now all) is ahead) written

-- and a front of it
pub line_begun : (before now last : Option (List ℕ)) (all rest more : List ReportLine) (line : ReportLine)
    → rest ≡ line ∷ more
    → Ahead before now all rest
    → WritesFront (line ∷ []) now last
    → WritesFront all before last
line_begun before now last all rest more line is ahead written =
    front_ahead before now last all more line (subst (Ahead before now all) is ahead) written

-- the line of the next step
pub step_next : (steps : List Asked) (replies : List Reply) (i : ℕ) (a : Asked) (r : Reply)
    → i < length steps
    → i < length replies
    → step_lines (drop i steps) (drop i replies)
    ≡ report.Response (responses.Step (get_or steps i a).line (get_or steps i a).cpu (get_or replies i r))
    ∷ step_lines (drop (i + 1) steps) (drop (i + 1) replies)
step_next steps replies i a r less many =
    ap (λ ss. step_lines ss (drop i replies)) (drop_more steps i a less)
    ∙ ap (step_lines (get_or steps i a ∷ drop (i + 1) steps)) (drop_more replies i r many)

-- and of the next disagreement
pub found_next : (found : List Disagreement) (i : ℕ) (d : Disagreement)
    → i < length found
    → map report.Judged (drop i found) ≡ report.Judged (get_or found i d) ∷ map report.Judged (drop (i + 1) found)
found_next found i d less = ap (map report.Judged) (drop_more found i d less)
