-- The object of a line, by the forms that lines have.
use Rattle.std.specs.Prelude.{ℕ, ◌+◌, ◌^◌, Bool, true, false, ◌&&◌, ◌||◌, not, negsuc, nat_lt, ◌==◌, nat_eq, List, [], ◌∷◌, length, take, drop, codes, Option, Some, None, is_some, option_map, option_and_then, unwrap_or, if◌then◌else◌}
use Rattle.std.specs.List.{list_any, starts_with}
use Rattle.std.specs.Str.{bytes_eq, is_utf8}
use Rattle.hex.specs.Hex.{encode_lower}
use Rattle.memchr.specs.Find.{first_of, matches}
use Rattle.serde_json.specs.Data.{Data, Members, number, unsigned, negative, string, object, no_members, put}
use Rattle.trace_words.specs.Numbers.{decimal_of, number_of}
use Rattle.report_json.specs.declared.forms.Field.{Field}
use Rattle.report_json.specs.declared.forms.Form.{Form}
use Rattle.report_json.specs.declared.forms.Kind.{Kind}
use Rattle.report_json.specs.declared.forms.Kind.TheVariants.{Number, Level, Hexadecimal, Word, OneOf, Text}

-- the bytes before the first place of a text, and those after it; all bytes if it is empty
abbrev pub cut : List ℕ → List ℕ → Option (List ℕ × List ℕ)
cut [] bytes = Some (bytes, [])
cut (byte ∷ stop) bytes =
    option_map (λ place. (take place bytes, drop (place + length (byte ∷ stop)) bytes))
    (first_of (matches bytes (byte ∷ stop) 0))

-- a number below 2^53 in decimal
abbrev pub is_exact : List ℕ → Bool
is_exact text = unwrap_or (option_map (λ value. nat_lt value (2 ^ 53)) (decimal_of text)) false

-- a byte, and none that is a space
abbrev pub is_word : List ℕ → Bool
is_word text = not (length text == 0) && not (list_any (λ byte. byte == 0x20) text)

-- a text is of a kind
abbrev pub has_kind : Kind → List ℕ → Bool
has_kind Number text = is_exact text
has_kind Level text = bytes_eq text (codes "-1") || is_exact text
has_kind Hexadecimal text = starts_with nat_eq text (codes "0x") && is_some (number_of text)
has_kind Word text = is_word text
has_kind (OneOf words) text = list_any (λ word. bytes_eq word.now text) words.now
has_kind Text text = true

-- the string of a text that is UTF-8
abbrev pub text_data : List ℕ → Option Data
text_data text = if is_utf8 text then Some (string text) else None

-- the number of a text in decimal
abbrev pub number_data : List ℕ → Option Data
number_data text = option_map (λ value. number (unsigned value)) (decimal_of text)

-- and of a level
abbrev pub level_data : List ℕ → Option Data
level_data text =
    if bytes_eq text (codes "-1") then Some (number (negative (negsuc 0))) else number_data text

-- what a text of a kind is
abbrev pub datum : Kind → List ℕ → Option Data
datum Number text = number_data text
datum Level text = level_data text
datum Hexadecimal text = text_data text
datum Word text = text_data text
datum (OneOf words) text = text_data text
datum Text text = text_data text

-- the value of a text of a kind, and of one that isn't of it none
abbrev pub data_of : Kind → List ℕ → Option Data
data_of kind text = if has_kind kind text then datum kind text else None

-- these members, and one for each field of a text that has just these fields
abbrev pub filled : List Field → List ℕ → Members → Option Members
filled [] [] set = Some set
filled [] (byte ∷ text) set = None
filled (field ∷ fields) text set =
    option_and_then
    (λ parts. option_and_then (λ value. filled fields parts.1 (put field.name.now value set))
    (data_of field.kind parts.0))
    (cut field.stop.now text)

-- the object of a line of a form: its `type`, and the fields after the form's start
abbrev pub form_object : Form → List ℕ → Option Data
form_object form line =
    if starts_with nat_eq line form.start.now
    then option_map object
    (filled form.fields.now (drop (length form.start.now) line)
    (put (codes "type") (string form.kind.now) no_members))
    else None

-- the object of a line that has no form: its bytes
abbrev pub bytes_object : List ℕ → Data
bytes_object line =
    object
    (put (codes "hexadecimal") (string (encode_lower line))
    (put (codes "type") (string (codes "bytes")) no_members))

-- the object of a line: that of the first form that it has
abbrev pub object_of : List Form → List ℕ → Data
object_of [] line = bytes_object line
object_of (form ∷ forms) line = unwrap_or (form_object form line) (object_of forms line)
