-- How the elements of a picture are written (profile): SVG, a line for each element.
use Rattle.std.specs.Prelude.{ℕ, List, [], ◌∷◌, ◌++◌, codes, ◌==◌, ◌-◌, ◌%◌, ◌||◌, nat_lt, if◌then◌else◌}
use Rattle.std.specs.Fmt.{decimal}
use Rattle.std.specs.List.{flat_map}
use Rattle.svg_elements.specs.declared.colours.Colour.{Colour}
use Rattle.svg_elements.specs.declared.colours.Colour.TheVariants.{Ice, Orange, Green, Pink, Violet, Teal, Crimson, Lime, Purple, Brown, Black, Pale, White, Red}
use Rattle.svg_elements.specs.declared.item.Area.{Area}
use Rattle.svg_elements.specs.declared.item.Head.{Head}
use Rattle.svg_elements.specs.declared.item.Item.{Item}
use Rattle.svg_elements.specs.declared.item.Item.TheVariants as items
use Rattle.svg_elements.specs.declared.item.Label.{Label}
use Rattle.svg_elements.specs.declared.item.Paint.{Paint}
use Rattle.svg_elements.specs.declared.item.Paint.TheVariants.{Plain, Lines, Dots, Bars}
use Rattle.svg_elements.specs.declared.item.Rectangle.{Rectangle}
use Rattle.svg_elements.specs.declared.item.Size.{Size}
use Rattle.svg_elements.specs.declared.item.Style.{Style}
use Rattle.svg_elements.specs.declared.item.Style.TheVariants as styles

-- red, green and blue, two hexadecimal digits each
abbrev pub code_of : Colour → List ℕ
code_of Ice = codes "d0e1f5"
code_of Orange = codes "f08c00"
code_of Green = codes "2f9e44"
code_of Pink = codes "c2255c"
code_of Violet = codes "6741d9"
code_of Teal = codes "0c8599"
code_of Crimson = codes "e03131"
code_of Lime = codes "66a80f"
code_of Purple = codes "9936b5"
code_of Brown = codes "8d5524"
code_of Black = codes "212529"
code_of Pale = codes "e9ecef"
code_of White = codes "ffffff"
code_of Red = codes "c92a2a"

-- the colour of a guest's slot; the ninth begins again
abbrev pub colour_numbered : ℕ → Colour
colour_numbered n =
    if n == 0 then Green
    else (if n == 1 then Pink
    else (if n == 2 then Violet
    else (if n == 3 then Teal
    else (if n == 4 then Crimson
    else (if n == 5 then Lime
    else (if n == 6 then Purple
    else Brown))))))

abbrev pub slot_colour : ℕ → Colour
slot_colour slot = colour_numbered (slot % 8)

-- the colour of an owner by its number: 0 the host, 1 the hypervisor, 2 + N the guest of slot N
abbrev pub owner_colour : ℕ → Colour
owner_colour owner =
    if owner == 0 then Ice
    else (if owner == 1 then Orange
    else slot_colour (owner - 2))

-- by how many degrees upright lines of a colour are turned: the host's rise, the hypervisor's fall,
-- guests' are upright, and white ones rise
abbrev pub angle_of : Colour → List ℕ
angle_of Ice = codes "45"
angle_of Orange = codes "-45"
angle_of White = codes "45"
angle_of other = codes "0"

-- a paint: a colour, or a pattern by its name
abbrev pub text_of_paint : Paint → List ℕ
text_of_paint (Plain c) = codes "#" ++ code_of c
text_of_paint (Lines c) = codes "url(#lines" ++ code_of c ++ codes ")"
text_of_paint (Dots c) = codes "url(#dots" ++ code_of c ++ codes ")"
text_of_paint (Bars c) = codes "url(#bars" ++ code_of c ++ codes ")"

-- the pattern of a paint; a plain one needs none
abbrev pub text_of_pattern : Paint → List ℕ
text_of_pattern (Plain c) = []
text_of_pattern (Lines c) =
    codes "<pattern id='lines" ++ code_of c
    ++ codes "' width='8' height='8' patternUnits='userSpaceOnUse' patternTransform='rotate("
    ++ angle_of c ++ codes ")'><rect width='1.3' height='8' fill='#" ++ code_of c
    ++ codes "'/></pattern>"
text_of_pattern (Dots c) =
    codes "<pattern id='dots" ++ code_of c
    ++ codes "' width='4' height='4' patternUnits='userSpaceOnUse'><circle cx='2' cy='2' r='1.2' fill='#"
    ++ code_of c ++ codes "'/></pattern>"
text_of_pattern (Bars c) =
    codes "<pattern id='bars" ++ code_of c
    ++ codes "' width='4' height='4' patternUnits='userSpaceOnUse'><rect width='4' height='1.6' fill='#"
    ++ code_of c ++ codes "'/></pattern>"

abbrev pub text_of_area : Area → List ℕ
text_of_area a =
    codes "x='" ++ decimal a.x ++ codes "' y='" ++ decimal a.y ++ codes "' width='"
    ++ decimal a.width ++ codes "' height='" ++ decimal a.height ++ codes "'"

abbrev pub text_of_rectangle : Rectangle → List ℕ
text_of_rectangle r =
    codes "<rect " ++ text_of_area r.area ++ codes " fill='" ++ text_of_paint r.paint ++ codes "'/>"

-- the class of a style
abbrev pub class_of : Style → List ℕ
class_of styles.Title = codes "title"
class_of styles.Label = codes "label"
class_of styles.Edge = codes "edge"
class_of styles.Code = codes "code"
class_of styles.Refused = codes "refused"
class_of styles.Slot = codes "slot"

abbrev pub text_of_turned : ℕ → ℕ → List ℕ
text_of_turned x y =
    codes "translate(" ++ decimal x ++ codes " " ++ decimal y ++ codes ") rotate(-60)"

-- where a text of a class begins
abbrev pub text_at : List ℕ → ℕ → ℕ → List ℕ
text_at class x y =
    codes "<text class='" ++ class ++ codes "' x='" ++ decimal x ++ codes "' y='" ++ decimal y
    ++ codes "'>"

-- the beginning of a text: a frame's number over a column is turned
abbrev pub head_by : Style → ℕ → ℕ → List ℕ
head_by styles.Edge x y =
    codes "<text class='" ++ class_of styles.Edge ++ codes "' transform='" ++ text_of_turned x y
    ++ codes "'>"
head_by style x y = text_at (class_of style) x y

abbrev pub text_of_head : Head → List ℕ
text_of_head h = head_by h.style h.x h.y

-- a byte inside an element: `<`, `>` and `&` by their names, and a question mark for what isn't
-- printable ASCII
abbrev pub escaped : ℕ → List ℕ
escaped byte =
    if byte == 60 then codes "&lt;"
    else (if byte == 62 then codes "&gt;"
    else (if byte == 38 then codes "&amp;"
    else (if nat_lt byte 32 || nat_lt 126 byte then codes "?"
    else byte ∷ [])))

-- the line of a text
abbrev pub text_of_words : Head → List ℕ → List ℕ
text_of_words head bytes = text_of_head head ++ flat_map escaped bytes ++ codes "</text>\n"

abbrev pub text_of_label : Label → List ℕ
text_of_label l = text_of_words l.head l.bytes.items

-- the line of a rectangle
abbrev pub text_of_filled : Rectangle → List ℕ
text_of_filled r = text_of_rectangle r ++ codes "\n"

-- the line of a rectangle that tells what it is where a pointer rests on it
abbrev pub titled_tag : Rectangle → List ℕ
titled_tag r =
    codes "<rect " ++ text_of_area r.area ++ codes " fill='" ++ text_of_paint r.paint
    ++ codes "'><title>"

abbrev pub text_of_titled : Rectangle → List ℕ → List ℕ
text_of_titled r bytes =
    titled_tag r ++ flat_map escaped bytes ++ codes "</title></rect>\n"

-- an element, which is closed where it ends, with the end of its line
abbrev pub text_of_item : Item → List ℕ
text_of_item (items.Pattern paint) = text_of_pattern paint ++ codes "\n"
text_of_item (items.Rectangle rectangle) = text_of_filled rectangle
text_of_item (items.Text label) = text_of_label label

abbrev pub text_of_size : Size → List ℕ
text_of_size s =
    codes "width='" ++ decimal s.width ++ codes "' height='" ++ decimal s.height
    ++ codes "' viewBox='0 0 " ++ decimal s.width ++ codes " " ++ decimal s.height ++ codes "'"

-- the name of SVG
unfoldable pub namespace : List ℕ
namespace = codes "http://www.w3.org/2000/svg"

-- how texts are set
unfoldable pub style : List ℕ
style =
    codes "<style>text { font-family: DejaVu Sans Mono, Menlo, Consolas, monospace; fill: #212529; white-space: pre } .title { font-size: 14px; font-weight: bold } .label { font-size: 11px } .edge { font-size: 9px } .code { font-size: 10px } .refused { font-size: 10px; fill: #c92a2a } .slot { font-size: 10px; fill: #ffffff }</style>"

-- the first lines of a picture
abbrev pub text_of_opening : Size → List ℕ
text_of_opening size =
    codes "<svg xmlns='" ++ namespace ++ codes "' " ++ text_of_size size ++ codes ">\n" ++ style
    ++ codes "\n"

-- the lines of a colour's patterns
abbrev pub pattern_line : Paint → List ℕ
pattern_line paint = text_of_pattern paint ++ codes "\n"

abbrev pub text_of_patterns : Colour → List ℕ
text_of_patterns c = pattern_line (Lines c) ++ pattern_line (Dots c) ++ pattern_line (Bars c)

-- a picture of these elements, in their order
abbrev pub text_of_picture : Size → List Item → List ℕ
text_of_picture size all = text_of_opening size ++ flat_map text_of_item all ++ codes "</svg>\n"
