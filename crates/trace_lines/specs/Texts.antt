-- How a report names the faults of lines, and writes what lines report (profile): words are
-- separated by one space each.
use Rattle.std.specs.Prelude.{ℕ, ◌-◌, List, ◌++◌, length, codes, replicate, false}
use Rattle.std.specs.Fmt.{digits, decimal}
use Rattle.page_state.specs.Entries.{entry_of_target}
use Rattle.page_state.specs.Texts.{text_of_entry, text_of_page}
use Rattle.call_table.specs.Texts.{text_of_reply}
use Rattle.trace_lines.specs.declared.fault.LineFault.{LineFault}
use Rattle.trace_lines.specs.declared.fault.LineFault.TheVariants as faults
use Rattle.trace_lines.specs.declared.response.Response.{Response}
use Rattle.trace_lines.specs.declared.response.Response.TheVariants as responses

-- the name of a line's fault
abbrev pub text_of_line_fault : LineFault → List ℕ
text_of_line_fault faults.Long = codes "long"
text_of_line_fault faults.Byte = codes "byte"
text_of_line_fault faults.Space = codes "space"
text_of_line_fault faults.Word = codes "word"
text_of_line_fault faults.Place = codes "place"
text_of_line_fault faults.Count = codes "count"
text_of_line_fault faults.Form = codes "form"

-- hexadecimal digits, filled up with zeros in front to 16 of them
abbrev pub digits_16 : ℕ → List ℕ
digits_16 word = replicate (16 - length (digits 16 false word)) 48 ++ digits 16 false word

-- what a line reports, without its end
abbrev pub text_of_response : Response → List ℕ
text_of_response (responses.Boot host hyp free) =
    codes "boot host " ++ decimal host ++ codes " hyp " ++ decimal hyp ++ codes " free "
    ++ decimal free
text_of_response (responses.Step line cpu reply) =
    decimal line ++ codes " " ++ decimal cpu ++ codes " " ++ text_of_reply reply
text_of_response (responses.Word word) = codes "word 0x" ++ digits_16 word
text_of_response (responses.Free free) = codes "free " ++ decimal free
text_of_response (responses.Run run) =
    codes "run " ++ text_of_page run.pages.first.0 ++ codes " " ++ decimal run.pages.count
    ++ codes " " ++ text_of_entry (entry_of_target run.target)
