-- What the report of a machine, or of another hypervisor, says of the steps of a trace (profile).
use Rattle.std.specs.Prelude.{ℕ, ◌+◌, Bool, ◌&&◌, ◌||◌, ◌==◌, List, [], ◌∷◌, ◌++◌, codes, nat_eq, position, slice_get, slice_set, unwrap_or, Option, Some, None, option_and_then, Result, Ok, Err, if◌then◌else◌}
use Rattle.std.specs.Fmt.{decimal}
use Rattle.std.specs.List.{starts_with}
use Rattle.std.specs.Str.{bytes_eq}
use Rattle.trace_words.specs.Numbers.{decimal_of}
use Rattle.trace_words.specs.Words.{words_of}
use Rattle.trace_race.specs.declared.course.Asked.{Asked}
use Rattle.trace_outcomes.specs.declared.observed.ReportFault.{ReportFault}
use Rattle.trace_outcomes.specs.declared.observed.ReportFault.TheVariants.{Form, NoStep, NoReply, Twice}
use Rattle.trace_outcomes.specs.Races.{Texts}

-- the first word of a line
abbrev pub first_word : List ℕ → List ℕ
first_word line = unwrap_or (slice_get (words_of line) 0) []

-- a line of no step: that of the boot, of a query, of the order or of the end
abbrev pub is_passed : List ℕ → Bool
is_passed line =
    bytes_eq (first_word line) (codes "boot") || bytes_eq (first_word line) (codes "word")
    || bytes_eq (first_word line) (codes "free") || bytes_eq (first_word line) (codes "order")
    || bytes_eq (first_word line) (codes "end")

-- the text after the first space
abbrev pub behind_space : List ℕ → List ℕ
behind_space [] = []
behind_space (byte ∷ more) = if byte == 0x20 then more else behind_space more

-- the line and the CPU of a step, which a line of a report begins with
abbrev pub both : Option ℕ → Option ℕ → Option (ℕ × ℕ)
both (Some number) (Some cpu) = Some (number, cpu)
both number cpu = None

abbrev pub step_of_line : List ℕ → Option (ℕ × ℕ)
step_of_line line =
    both (option_and_then decimal_of (slice_get (words_of line) 0))
    (option_and_then decimal_of (slice_get (words_of line) 1))

-- a refusal
abbrev pub is_refusal : List ℕ → Bool
is_refusal text =
    bytes_eq text (codes "perm") || bytes_eq text (codes "novm")
    || bytes_eq text (codes "nomemory") || bytes_eq text (codes "busy")
    || bytes_eq text (codes "invalid") || bytes_eq text (codes "nopool")
    || bytes_eq text (codes "logfull") || bytes_eq text (codes "contended")

-- a text that may be a reply: `ok`, the same with a value, or a refusal
abbrev pub is_reply : List ℕ → Bool
is_reply text =
    bytes_eq text (codes "ok") || starts_with nat_eq text (codes "ok ") || is_refusal text

-- the step of a line and a CPU, by its place
abbrev pub place_of : List Asked → ℕ → ℕ → Option ℕ
place_of steps line cpu = position (λ a. a.line == line && a.cpu == cpu) steps

-- a text is the reply to the step at a place, which has none yet
abbrev pub put_at : Texts → ℕ → List ℕ → Option (Option (List ℕ)) → Result Texts ReportFault
put_at texts place text (Some None) = Ok (slice_set texts place (Some text))
put_at texts place text other = Err Twice

abbrev pub put : Texts → ℕ → List ℕ → Result Texts ReportFault
put texts place text =
    if is_reply text then put_at texts place text (slice_get texts place) else Err NoReply

abbrev pub told_at : Texts → List ℕ → Option ℕ → Result Texts ReportFault
told_at texts text None = Err NoStep
told_at texts text (Some place) = put texts place text

abbrev pub told_by : List Asked → Texts → List ℕ → Option (ℕ × ℕ) → Result Texts ReportFault
told_by steps texts line None = Err Form
told_by steps texts line (Some (number, cpu)) =
    told_at texts (behind_space (behind_space line)) (place_of steps number cpu)

-- the replies with one line more
abbrev pub told_with : List Asked → Texts → List ℕ → Result Texts ReportFault
told_with steps texts line =
    if is_passed line then Ok texts else told_by steps texts line (step_of_line line)

-- the form expected of a line that can't be read
abbrev pub wanted_of : ReportFault → List ℕ
wanted_of Form = codes "a line of a race's report"
wanted_of NoStep = codes "the line and the CPU of a step of the trace"
wanted_of NoReply = codes "a reply behind line and CPU"
wanted_of Twice = codes "a step of which no line before this tells"

-- the place of a fault, with the text found and the form expected there; `name` is the report's
-- file
abbrev pub place_text : List ℕ → ℕ → List ℕ
place_text name number = name ++ (codes ":" ++ decimal number ++ codes ":1: ")

abbrev pub found_text : List ℕ → List ℕ → List ℕ
found_text line wanted = codes "found `" ++ line ++ codes "`, wanted " ++ wanted ++ 10 ∷ []

abbrev pub report_fault_text : List ℕ → ℕ → List ℕ → ReportFault → List ℕ
report_fault_text name number line fault =
    place_text name number ++ found_text line (wanted_of fault)

-- the texts of lines from a number on, or the place of the first fault
abbrev pub onward : List ℕ → ℕ → List ℕ → Result Texts ReportFault → (Texts → Result Texts (List ℕ))
    → Result Texts (List ℕ)
onward name number line (Ok texts) more = more texts
onward name number line (Err fault) more = Err (report_fault_text name number line fault)

abbrev pub told_in : List ℕ → List Asked → ℕ → Texts → List (List ℕ) → Result Texts (List ℕ)
told_in name steps number texts [] = Ok texts
told_in name steps number texts (line ∷ rest) =
    onward name number line (told_with steps texts line)
    (λ next. told_in name steps (number + 1) next rest)
