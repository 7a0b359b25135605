-- The forms that the words of a line must have, by the rows of the grammar (profile).
use Rattle.std.specs.Prelude.{ℕ, ◌+◌, Bool, true, List, [], ◌∷◌, ◌++◌, codes, map, is_some, Some, None, slice_get, unwrap_or, if◌then◌else◌}
use Rattle.std.specs.Str.{bytes_eq}
use Rattle.call_table.specs.declared.argument.Form.{Form as ArgumentForm}
use Rattle.call_table.specs.declared.argument.Form.TheVariants.{Frame, Page, Count, LastCount, Vcpus, Vcpu, Vm, Kind, Rights}
use Rattle.call_table.specs.Named.{blank}
use Rattle.call_table.specs.Rows.{named as call_named, row}
use Rattle.trace_faults.specs.declared.form.Form.{Form}
use Rattle.trace_faults.specs.declared.form.Form.TheVariants.{Name, Cpu, Number, Word, Level, Slot, Argument}
use Rattle.trace_faults.specs.declared.form.LineForms.{LineForms}
use Rattle.trace_lines.specs.Arguments.{number_at, level_word_at, slot_word_at}
use Rattle.trace_lines.specs.Asked.{begins_with_digit}
use Rattle.trace_lines.specs.Calls.{argument_at}
use Rattle.trace_words.specs.Words.{named}

-- the expected argument of a form, in words
abbrev pub wanted_argument : ArgumentForm → List ℕ
wanted_argument Frame = codes "FRAME, a number"
wanted_argument Page = codes "PAGE, a number"
wanted_argument Count = codes "COUNT, a number"
wanted_argument LastCount = codes "COUNT, a number"
wanted_argument Vcpus = codes "VCPUS, a number"
wanted_argument Vcpu = codes "VCPU, a number"
wanted_argument Vm = codes "a VM, as 0.1"
wanted_argument Kind = codes "protected or plain"
wanted_argument Rights = codes "r, rw, rx or rwx"

-- and of any word
abbrev pub wanted_form : Form → List ℕ
wanted_form Name = codes "a name"
wanted_form Cpu = codes "CPU, a number"
wanted_form Number = codes "a number"
wanted_form Word = codes "WORD, a number"
wanted_form Level = codes "a level, 0 to 3"
wanted_form Slot = codes "a slot, 0 to 63"
wanted_form (Argument form) = wanted_argument form

-- whether the word at a place is of a form
abbrev pub is_of : List (List ℕ) → ℕ → Form → Bool
is_of words place Name = true
is_of words place Cpu = is_some (number_at words place)
is_of words place Number = is_some (number_at words place)
is_of words place Word = is_some (number_at words place)
is_of words place Level = is_some (level_word_at words place)
is_of words place Slot = is_some (slot_word_at words place)
is_of words place (Argument form) = is_some (argument_at form words place blank)

-- the first place, from one on, whose word isn't of its form
abbrev pub first_wrong : List (List ℕ) → List Form → ℕ → ℕ
first_wrong words [] place = place
first_wrong words (form ∷ more) place =
    if is_of words place form then first_wrong words more (place + 1) else place

-- whether the word at a place has the form that a list gives for that place: yes if it gives none
abbrev pub is_right : List (List ℕ) → List Form → ℕ → ℕ → Bool
is_right words forms at place =
    elim (slice_get forms at) [ Some form ↦ is_of words place form | None ↦ true ]

-- a line's own forms, and those of a call's arguments after them
abbrev pub all_forms : LineForms → List Form
all_forms forms = forms.own.now ++ map Argument forms.arguments.now

-- those of a step line whose call has this name: of its CPU, the name and the arguments
abbrev pub call_forms : List ℕ → List Form
call_forms name =
    elim (call_named name) [ Some call ↦ Cpu ∷ Name ∷ map Argument (row call).forms | None ↦ [] ]

-- those of a line that names a tree
abbrev pub tree_forms : List Form → List Form → List ℕ → List Form
tree_forms plain guest name =
    unwrap_or
    (named ((codes "host", plain) ∷ (codes "hyp", plain) ∷ (codes "guest", guest) ∷ []) name) []

-- and a pool
abbrev pub pool_forms : List ℕ → List Form
pool_forms name =
    unwrap_or
    (named
    ((codes "shared", Name ∷ Name ∷ []) ∷ (codes "guest", Name ∷ Name ∷ Slot ∷ [])
    ∷ []) name)
    []

-- a range of pages
abbrev pub range_forms : List Form
range_forms = Name ∷ Argument Page ∷ Argument Count ∷ []

-- those of a line whose first word says the whole request
abbrev pub header_forms : List ℕ → List Form
header_forms name = unwrap_or (named (
    (codes "geometry", Name ∷ Number ∷ []) ∷ (codes "cpus", Name ∷ Number ∷ [])
    ∷ (codes "log", Name ∷ Number ∷ [])
    ∷ (codes "memory", range_forms) ∷ (codes "device", range_forms) ∷ (codes "carve", range_forms)
    ∷ (codes "boot", Name ∷ []) ∷ (codes "start", Name ∷ []) ∷ []) name) []

-- the forms of a line that is no step line, by its first words
abbrev pub own_forms : List ℕ → List ℕ → List Form
own_forms first second =
    if bytes_eq first (codes "word")
    then tree_forms (Name ∷ Name ∷ Argument Page ∷ Level ∷ [])
    (Name ∷ Name ∷ Slot ∷ Argument Page ∷ Level ∷ []) second
    else (if bytes_eq first (codes "free") then pool_forms second
    else (if bytes_eq first (codes "show")
    then tree_forms (Name ∷ Name ∷ []) (Name ∷ Name ∷ Slot ∷ []) second
    else (if bytes_eq first (codes "poke")
    then tree_forms (Name ∷ Name ∷ Argument Page ∷ Level ∷ Word ∷ [])
    (Name ∷ Name ∷ Slot ∷ Argument Page ∷ Level ∷ Word ∷ []) second
    else header_forms first)))

-- and of any line
abbrev pub forms_from : List ℕ → List ℕ → List Form
forms_from first second =
    if begins_with_digit first then call_forms second else own_forms first second

-- the forms of the words of a line: none if they ask for nothing
unfoldable pub forms : List (List ℕ) → List Form
forms words =
    elim (slice_get words 0)
    [ Some first ↦ forms_from first (unwrap_or (slice_get words 1) []) | None ↦ [] ]
