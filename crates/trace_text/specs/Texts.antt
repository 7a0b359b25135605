-- How a report is written (profile): a line's words are separated by one space each, its end is the
-- byte 10.
use Rattle.std.specs.Prelude.{ℕ, List, [], ◌∷◌, ◌++◌, codes}
use Rattle.std.specs.Fmt.{decimal}
use Rattle.page_state.specs.LayoutFaults.{fault_number}
use Rattle.trace_lines.specs.Texts.{text_of_line_fault, text_of_response}
use Rattle.world.specs.Boots.{boot_number}
use Rattle.ghost_judge.specs.Texts.{text_of_disagreement, text_of_judgement}
use Rattle.ghost_legal.specs.Texts.{text_of_unlawful}
use Rattle.trace_text.specs.declared.fault.Fault.{Fault}
use Rattle.trace_text.specs.declared.fault.Fault.TheVariants as faults
use Rattle.trace_text.specs.declared.report.ReportLine.{ReportLine}
use Rattle.trace_text.specs.declared.report.ReportLine.TheVariants as report

-- the name of a fault, with its number if it has one
abbrev pub text_of_fault : Fault → List ℕ
text_of_fault faults.Lines = codes "lines"
text_of_fault (faults.Line fault) = text_of_line_fault fault
text_of_fault faults.Cpu = codes "cpu"
text_of_fault (faults.Layout fault) = codes "layout " ++ decimal (fault_number fault)
text_of_fault (faults.Boot fault) = codes "boot " ++ decimal (boot_number fault)
text_of_fault faults.Path = codes "path"

-- the last line of a whole trace
abbrev pub text_of_end : ℕ → ℕ → List ℕ
text_of_end steps disagreements =
    codes "end steps " ++ decimal steps ++ codes " disagreements " ++ decimal disagreements

-- a line of a report, without its end
unfoldable pub text_of : ReportLine → List ℕ
text_of (report.Response response) = text_of_response response
text_of (report.Judged found) = text_of_judgement found
text_of (report.Audited found) = text_of_disagreement found
text_of (report.Illegal why) = codes "illegal " ++ text_of_unlawful why
text_of (report.Fault line fault) = decimal line ++ codes " fault " ++ text_of_fault fault
text_of (report.End steps disagreements) = text_of_end steps disagreements

-- a whole report
abbrev pub text_of_report : List ReportLine → List ℕ
text_of_report [] = []
text_of_report (line ∷ lines) = (text_of line ++ 10 ∷ []) ++ text_of_report lines
