-- An object of a line nests no other.
use Rattle.std.proofs.Common.{◌≡◌, ℕ, List, [], ◌∷◌, Option, Some, None, Bool, true, false, drop, length, option_map, refl, ap, subst, suc}
use Rattle.std.specs.Prelude.{⊤, negsuc, codes, unwrap_or, if◌then◌else◌}
use Rattle.std.specs.Ordering.{match_ordering, nat_cmp}
use Rattle.std.specs.Cmp.Lexicographic.{slice_cmp}
use Rattle.std.specs.Str.{bytes_eq, is_utf8}
use Rattle.std.specs.declared.cmp.Ordering.{Ordering}
use Rattle.std.specs.declared.cmp.Ordering.TheVariants.{Less, Equal, Greater}
use Rattle.std.proofs.lemmas.Option.{option_and_then_some}
use Rattle.serde_json.specs.Data.{Data, Members, member, no_members, number, unsigned, negative, string, object, depth, members_depth, put}
use Rattle.hex.specs.Hex.{encode_lower}
use Rattle.trace_words.specs.Numbers.{decimal_of}
use Rattle.report_json.specs.declared.forms.Field.{Field}
use Rattle.report_json.specs.declared.forms.Form.{Form}
use Rattle.report_json.specs.declared.forms.Kind.{Kind}
use Rattle.report_json.specs.declared.forms.Kind.TheVariants.{Number, Level, Hexadecimal, Word, OneOf, Text}
use Rattle.report_json.specs.Forms.{bytes_object, cut, data_of, datum, filled, form_object, has_kind, number_data, object_of, text_data}

some_is : {X : Type 0} {x y : X} → Some x ≡ Some y → x ≡ y
some_is h = cc

-- no member nests
abbrev AreFlat : Members → Type 0
AreFlat no_members = ⊤
AreFlat (member k d more) = (depth d ≡ 0) × AreFlat more

of_flat : (all : Members) → AreFlat all → members_depth all ≡ 0
of_flat no_members flat = refl
of_flat (member k d more) flat = rw flat.0 (rw (of_flat more flat.1) refl)

of_each : (P : Members → Type 0) (o : Ordering) (a b c : Members) → P a → P b → P c → P (match_ordering o a b c)
of_each P Less a b c pa pb pc = pa
of_each P Equal a b c pa pb pc = pb
of_each P Greater a b c pa pb pc = pc

put_flat : (k : List ℕ) (d : Data) → depth d ≡ 0 → (all : Members) → AreFlat all → AreFlat (put k d all)
put_flat k d low no_members flat = (low, tt)
put_flat k d low (member l e more) flat =
    of_each AreFlat (slice_cmp nat_cmp k l) (member k d (member l e more)) (member l d more)
    (member l e (put k d more)) (low, flat) (low, flat.1) (flat.0, put_flat k d low more flat.1)

if_some : {X : Type 0} (b : Bool) (o : Option X) (x : X) → (if b then o else None) ≡ Some x → o ≡ Some x
if_some true o x h = h
if_some false o x h = cc

map_some : {X Y : Type 0} (f : X → Y) (o : Option X) (y : Y)
    → option_map f o ≡ Some y
    → (x : X) × (o ≡ Some x) × (f x ≡ y)
map_some f None y h = cc
map_some f (Some x) y h = (x, refl, some_is h)

text_flat : (text : List ℕ) (d : Data) → text_data text ≡ Some d → depth d ≡ 0
text_flat text d h = subst (λ x. depth x ≡ 0) (some_is (if_some (is_utf8 text) (Some (string text)) d h)) refl

number_flat : (text : List ℕ) (d : Data) → number_data text ≡ Some d → depth d ≡ 0
number_flat text d h =
    subst (λ x. depth x ≡ 0) (map_some (λ value. number (unsigned value)) (decimal_of text) d h).2 refl

level_flat : (below : Bool) (text : List ℕ) (d : Data)
    → (if below then Some (number (negative (negsuc 0))) else number_data text) ≡ Some d
    → depth d ≡ 0
level_flat true text d h = subst (λ x. depth x ≡ 0) (some_is h) refl
level_flat false text d h = number_flat text d h

datum_flat : (kind : Kind) (text : List ℕ) (d : Data) → datum kind text ≡ Some d → depth d ≡ 0
datum_flat Number text d h = number_flat text d h
datum_flat Level text d h = level_flat (bytes_eq text (codes "-1")) text d h
datum_flat Hexadecimal text d h = text_flat text d h
datum_flat Word text d h = text_flat text d h
datum_flat (OneOf words) text d h = text_flat text d h
datum_flat Text text d h = text_flat text d h

filled_flat : (fields : List Field) (text : List ℕ) (set all : Members)
    → AreFlat set
    → filled fields text set ≡ Some all
    → AreFlat all
filled_flat [] [] set all flat h = subst AreFlat (some_is h) flat
filled_flat [] (byte ∷ text) set all flat h = cc
filled_flat (field ∷ fields) text set all flat h =
    option_and_then_some _ (cut field.stop.now text) all h
    (λ parts is_cut next. option_and_then_some _ (data_of field.kind parts.0) all next (λ value is_value rest.
    let low =
    datum_flat field.kind parts.0 value
    (if_some (has_kind field.kind parts.0) (datum field.kind parts.0) value is_value) in
    filled_flat fields parts.1 (put field.name.now value set) all (put_flat field.name.now value low set flat) rest))

-- the member `type` alone
typed : (kind : List ℕ) → AreFlat (put (codes "type") (string kind) no_members)
typed kind = (refl, tt)

form_flat : (form : Form) (line : List ℕ) (found : Data) → form_object form line ≡ Some found → depth found ≡ 1
form_flat form line found h =
    let made =
    map_some object
    (filled form.fields.now (drop (length form.start.now) line)
    (put (codes "type") (string form.kind.now) no_members)) found
    (if_some _ _ found h) in
    subst (λ x. depth x ≡ 1) made.2
    (ap (λ n. suc n) (of_flat made.0 (filled_flat form.fields.now _ _ made.0 (typed form.kind.now) made.1)))

bytes_flat : (line : List ℕ) → depth (bytes_object line) ≡ 1
bytes_flat line =
    let first = put (codes "type") (string (codes "bytes")) no_members in
    let digits = string (encode_lower line) in
    ap (λ n. suc n)
    (of_flat (put (codes "hexadecimal") digits first)
    (put_flat (codes "hexadecimal") digits refl first (typed (codes "bytes"))))

pub object_flat : (forms : List Form) (line : List ℕ) → depth (object_of forms line) ≡ 1
object_flat [] line = bytes_flat line
object_flat (form ∷ forms) line = go (form_object form line) refl (object_flat forms line)
  where
    go : (o : Option Data)
        → form_object form line ≡ o
        → depth (object_of forms line) ≡ 1
        → depth (unwrap_or o (object_of forms line)) ≡ 1
    go None is rest = rest
    go (Some found) is rest = form_flat form line found is
