-- The text beside the report of a trace (profile).
use Rattle.std.specs.Prelude.{ℕ, ◌-◌, Bool, false, ◌&&◌, ◌||◌, not, nat_lt, ◌==◌, List, [], ◌∷◌, ◌++◌, codes, length, Option, Some, None, option_and_then, option_map, slice_get, if◌then◌else◌}
use Rattle.std.specs.List.{list_all, list_any}
use Rattle.std.specs.Str.{bytes_eq}
use Rattle.page_state.specs.declared.layout.LayoutFault.TheVariants as layouts
use Rattle.trace_faults.specs.Spots.{has_booted, place_line}
use Rattle.trace_lines.specs.declared.fault.LineFault.{LineFault}
use Rattle.trace_lines.specs.declared.fault.LineFault.TheVariants as line_faults
use Rattle.trace_text.specs.declared.fault.Fault.{Fault}
use Rattle.trace_text.specs.declared.fault.Fault.TheVariants as faults
use Rattle.trace_words.specs.Numbers.{decimal_of}
use Rattle.trace_words.specs.Words.{is_silent, named, words_of}
use Rattle.world.specs.declared.boot.BootFault.TheVariants as boots

-- a line of the report of a whole file
abbrev pub file_line : List ℕ → List ℕ → List ℕ
file_line name said = name ++ codes ": " ++ said ++ 10 ∷ []

-- the text for lines without a fault: that none says anything, that there is no boot, or of a race
-- that there is no start
abbrev pub remark : List ℕ → List (List ℕ) → Bool → List ℕ
remark name lines races =
    if list_all is_silent lines then file_line name (codes "the trace says nothing")
    else (if not (has_booted lines) then file_line name (codes "no boot, so no step is made")
    else (if races
    && not (list_any (λ line. bytes_eq line (codes "start")) lines)
    then file_line name (codes "no start, so all steps are made in order")
    else []))

-- the place of a fault at the line of a number, if there is such a line
abbrev pub place_of : List ℕ → List (List ℕ) → ℕ → Fault → List ℕ
place_of name lines number fault =
    if number == 0 || nat_lt (length lines) number then []
    else place_line name lines (number - 1) fault

-- the text beside the report of these lines, whose run had this fault at the line of this number,
-- or none
abbrev pub text_beside : List ℕ → List (List ℕ) → Option (ℕ × Fault) → Bool → List ℕ
text_beside name lines (Some (number, fault)) races = place_of name lines number fault
text_beside name lines None races = remark name lines races

-- the fault of a line, by its name
abbrev pub line_fault : List ℕ → Option LineFault
line_fault name = named (
    (codes "long", line_faults.Long) ∷ (codes "byte", line_faults.Byte)
    ∷ (codes "space", line_faults.Space) ∷ (codes "word", line_faults.Word)
    ∷ (codes "place", line_faults.Place) ∷ (codes "count", line_faults.Count)
    ∷ (codes "form", line_faults.Form) ∷ []) name

-- that of a name without a number
abbrev pub plain_fault : List ℕ → Option Fault
plain_fault name =
    if bytes_eq name (codes "lines") then Some faults.Lines
    else (if bytes_eq name (codes "cpu") then Some faults.Cpu
    else (if bytes_eq name (codes "path") then Some faults.Path
    else option_map faults.Line (line_fault name)))

-- the fault of a layout, and of a boot, by its number
abbrev pub layout_fault : ℕ → Option Fault
layout_fault number =
    if number == 1 then Some (faults.Layout layouts.Overlap)
    else (if number == 2 then Some (faults.Layout layouts.Empty)
    else (if number == 3 then Some (faults.Layout layouts.PastLimit)
    else (if number == 4 then Some (faults.Layout layouts.CarveOutside)
    else (if number == 5 then Some (faults.Layout layouts.TooMany)
    else (if number == 6 then Some (faults.Layout layouts.NoMemory) else None)))))

abbrev pub boot_fault : ℕ → Option Fault
boot_fault number =
    if number == 1 then Some (faults.Boot boots.Config)
    else (if number == 2 then Some (faults.Boot boots.CarveSmall)
    else (if number == 3 then Some (faults.Boot boots.NoMemory) else None))

-- that of a name, and of the number after it, if there is one
abbrev pub numbered_fault : List ℕ → ℕ → Option Fault
numbered_fault name number =
    if bytes_eq name (codes "layout") then layout_fault number
    else (if bytes_eq name (codes "boot") then boot_fault number else None)

abbrev pub fault_named : List ℕ → Option (List ℕ) → Option Fault
fault_named name None = plain_fault name
fault_named name (Some number) = option_and_then (numbered_fault name) (decimal_of number)

-- the fault of a report's line, and the number of the trace's line
abbrev pub fault_in_words : List (List ℕ) → Option (ℕ × Fault)
fault_in_words words =
    option_and_then
    (λ number. option_and_then
    (λ name. option_map (λ fault. (number, fault)) (fault_named name (slice_get words 3)))
    (slice_get words 2))
    (option_and_then decimal_of (slice_get words 0))

abbrev pub is_told : List (List ℕ) → Bool
is_told words =
    elim (slice_get words 1) [ Some word ↦ bytes_eq word (codes "fault") | None ↦ false ]

abbrev pub fault_reported : List ℕ → Option (ℕ × Fault)
fault_reported told = if is_told (words_of told) then fault_in_words (words_of told) else None
