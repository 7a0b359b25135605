-- What a line reports, as an expectation has it (profile).
use Rattle.std.specs.Prelude.{ℕ, Bool, true, false, List, [], ◌∷◌, ◌++◌, codes, map}
use Rattle.ghost_judge.specs.Texts.{text_of_disagreement, text_of_judgement}
use Rattle.call_table.specs.Texts.{text_of_reply}
use Rattle.trace_lines.specs.Texts.{text_of_response}
use Rattle.trace_lines.specs.declared.response.Response.{Response}
use Rattle.trace_lines.specs.declared.response.Response.TheVariants as responses
use Rattle.trace_text.specs.Texts.{text_of, text_of_fault}
use Rattle.trace_text.specs.declared.report.ReportLine.{ReportLine}
use Rattle.trace_text.specs.declared.report.ReportLine.TheVariants as report

-- of a step line the reply alone, of all else the line of the report
abbrev pub shown_response : Response → List ℕ
shown_response (responses.Boot host hyp free) = text_of_response (responses.Boot host hyp free)
shown_response (responses.Step line cpu reply) = text_of_reply reply
shown_response (responses.Word word) = text_of_response (responses.Word word)
shown_response (responses.Free free) = text_of_response (responses.Free free)
shown_response (responses.Run run) = text_of_response (responses.Run run)

-- a fault without its line's number
abbrev pub shown : ReportLine → List ℕ
shown (report.Response response) = shown_response response
shown (report.Judged found) = text_of_judgement found
shown (report.Audited found) = text_of_disagreement found
shown (report.Illegal why) = text_of (report.Illegal why)
shown (report.Fault line fault) = codes "fault " ++ text_of_fault fault
shown (report.End steps disagreements) = text_of (report.End steps disagreements)

-- the expectations that a line with this report needs: `nothing` if it reports no line
abbrev pub shown_all : List ReportLine → List (List ℕ)
shown_all [] = codes "nothing" ∷ []
shown_all (told ∷ more) = map shown (told ∷ more)

-- a line of a report that is neither a fault nor a disagreement
abbrev pub is_plain : ReportLine → Bool
is_plain (report.Response response) = true
is_plain (report.Judged found) = false
is_plain (report.Audited found) = false
is_plain (report.Illegal why) = false
is_plain (report.Fault line fault) = false
is_plain (report.End steps disagreements) = true

-- the line of a boot
abbrev pub is_boot_response : Response → Bool
is_boot_response (responses.Boot host hyp free) = true
is_boot_response (responses.Step line cpu reply) = false
is_boot_response (responses.Word word) = false
is_boot_response (responses.Free free) = false
is_boot_response (responses.Run run) = false

-- or that of a fault, which says why there is no boot
abbrev pub is_boot_or_fault : ReportLine → Bool
is_boot_or_fault (report.Response response) = is_boot_response response
is_boot_or_fault (report.Judged found) = false
is_boot_or_fault (report.Audited found) = false
is_boot_or_fault (report.Illegal why) = false
is_boot_or_fault (report.Fault line fault) = true
is_boot_or_fault (report.End steps disagreements) = false
