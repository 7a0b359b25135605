-- The meaning of a line of a trace after the lines before it, or its first fault (profile).
use Rattle.std.specs.Prelude.{ℕ, not, nat_lt, ◌==◌, List, length, Option, Some, None, Result, Ok, Err, ok_or, option_map, if◌then◌else◌}
use Rattle.trace_lines.specs.declared.asked.Asked.{Asked}
use Rattle.trace_lines.specs.declared.fault.LineFault.{LineFault}
use Rattle.trace_lines.specs.declared.fault.LineFault.TheVariants.{Long, Byte, Space, Word, Place, Count, Form}
use Rattle.trace_lines.specs.declared.line.Line.{Line}
use Rattle.trace_lines.specs.declared.place.Allows.{Allows}
use Rattle.trace_lines.specs.Asked.{asked}
use Rattle.trace_lines.specs.Places.{may_stand}
use Rattle.trace_lines.specs.Settings.{Told}
use Rattle.trace_words.specs.Words.{has_stray_byte, is_silent, words_of, has_stray_space}

-- what a number of words say that ask for this
abbrev pub said_by_asked : Allows → Told → ℕ → Option Asked → Result (Option Line) LineFault
said_by_asked allows told count None = Err Word
said_by_asked allows told count (Some asked) =
    if not (may_stand allows told asked.verb) then Err Place
    else (if not (count == asked.words) then Err Count
    else ok_or (option_map Some asked.line) Form)

-- what words say
abbrev pub said_by_words : Allows → Told → List (List ℕ) → Result (Option Line) LineFault
said_by_words allows told words = said_by_asked allows told (length words) (asked words)

-- the meaning of a line if the program allows these lines: nothing, a line, or its first fault
unfoldable pub said : Allows → Told → List ℕ → Result (Option Line) LineFault
said allows told line =
    if nat_lt 256 (length line) then Err Long
    else (if has_stray_byte line then Err Byte
    else (if is_silent line then Ok None
    else (if has_stray_space line then Err Space
    else said_by_words allows told (words_of line))))
