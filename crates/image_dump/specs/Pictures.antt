-- The report as a picture: a row for each tree, in which each run is a block.
use Rattle.std.specs.Prelude.{ℕ, ◌+◌, ◌-◌, ◌==◌, ◌&&◌, ◌||◌, nat_lt, min, Bool, true, false, List, [], ◌∷◌, ◌++◌, codes, Option, Some, None, if◌then◌else◌}
use Rattle.std.specs.List.{filter_map, flat_map, list_any}
use Rattle.page_state.specs.Texts.{text_of_page}
use Rattle.run_list.specs.declared.run.Run.{Run}
use Rattle.walked_tables.specs.declared.said.Said.{Said}
use Rattle.image_findings.specs.declared.claim.Claim.{Claim}
use Rattle.image_findings.specs.declared.finding.Finding.{Finding}
use Rattle.image_findings.specs.declared.finding.Finding.TheVariants.{Malformed, NoTable, TwoOwners, TwoBorrowers, NoBorrower, Unshared, Denied, MappedTable, MetTwice}
use Rattle.svg_elements.specs.Items.{text_of_filled, text_of_opening, text_of_patterns, text_of_titled, text_of_words}
use Rattle.svg_elements.specs.declared.colours.Colour.{Colour}
use Rattle.svg_elements.specs.declared.colours.Colour.TheVariants as colour
use Rattle.svg_elements.specs.declared.item.Area.{Area}
use Rattle.svg_elements.specs.declared.item.Head.{Head}
use Rattle.svg_elements.specs.declared.item.Paint.TheVariants as paint
use Rattle.svg_elements.specs.declared.item.Rectangle.{Rectangle}
use Rattle.svg_elements.specs.declared.item.Size.{Size}
use Rattle.svg_elements.specs.declared.item.Style.{Style}
use Rattle.svg_elements.specs.declared.item.Style.TheVariants as style
use Rattle.image_dump.specs.Looks.{look_of, owned_by, look}
use Rattle.image_dump.specs.Texts.{text_of_line}
use Rattle.image_dump.specs.declared.line.DumpLine.{DumpLine}
use Rattle.image_dump.specs.declared.line.DumpLine.TheVariants as line
use Rattle.image_dump.specs.declared.looks.Look.{Look}
use Rattle.image_dump.specs.declared.places.Pen.{Pen}

-- an element: a rectangle, a block with its line of the report, the page over it, or a line that is
-- no run's
pub data Shown : Type 0 where
  Filled : Rectangle → Shown
  Block : Rectangle → List ℕ → Shown
  Above : Head → List ℕ → Shown
  Words : Head → List ℕ → Shown

-- ---- what is marked

-- a claim is that of the tree's run from this page on; the host makes those that name an owner
abbrev pub is_claim : ℕ → ℕ → Claim → Bool
is_claim tree page c = (if c.named then 0 else c.tree) == tree && c.page == page

-- a finding names the tree's run from this page on
abbrev pub names_run : ℕ → ℕ → Finding → Bool
names_run tree page (Malformed other first count) = other == tree && first == page
names_run tree page (NoTable other first count frame) = other == tree && first == page
names_run tree page (TwoOwners frame a b) = is_claim tree page a || is_claim tree page b
names_run tree page (TwoBorrowers frame a b) = is_claim tree page a || is_claim tree page b
names_run tree page (NoBorrower frame c) = is_claim tree page c
names_run tree page (Unshared frame c) = is_claim tree page c
names_run tree page (Denied frame c) = is_claim tree page c
names_run tree page (MappedTable table c) = is_claim tree page c
names_run tree page (MetTwice a b) = false

abbrev pub finding_in : DumpLine → Option Finding
finding_in (line.Finding finding) = Some finding
finding_in other = None

-- the findings of a report
abbrev pub findings_in : List DumpLine → List Finding
findings_in lines = filter_map finding_in lines

-- ---- where things are, in pixels

-- a sum, or the greatest number of 64 bits
abbrev pub plus : ℕ → ℕ → ℕ
plus a b = min (a + b) 18446744073709551615

abbrev pub at_left : ℕ → ℕ → Pen
at_left tree y = record { tree = tree; x = 12; y = y }

-- 2 MiB and 1 GiB are wider than a page
abbrev pub width_of : ℕ → ℕ
width_of count = if nat_lt count 512 then 15 else (if nat_lt count 262144 then 30 else 60)

-- where a block of this width goes: in the next row where this one has no room for it
abbrev pub placed : Pen → ℕ → Pen
placed pen width =
    if nat_lt 972 (plus pen.x width) then at_left pen.tree (plus pen.y 100) else pen

abbrev pub behind_block : Pen → ℕ → Pen
behind_block pen width = record (placed pen width) { x = plus (placed pen width).x width }

-- where the next element goes
abbrev pub behind : Pen → DumpLine → Pen
behind pen (line.Tree root tables) = at_left root.tree (plus pen.y 134)
behind pen (line.Run run) = behind_block pen (width_of run.pages.count)
behind pen other = at_left pen.tree (plus pen.y 14)

abbrev pub start : Pen
start = at_left 0 50

unfoldable pub last : Pen → List DumpLine → Pen
last pen [] = pen
last pen (l ∷ ls) = last (behind pen l) ls

-- ---- elements

abbrev pub head : ℕ → ℕ → Style → Head
head x y style = record { x = x; y = y; style = style }

abbrev pub area : ℕ → ℕ → ℕ → ℕ → Area
area x y width height = record { x = x; y = y; width = width; height = height }

abbrev pub plain : Area → Colour → Shown
plain a c = Filled (record { area = a; paint = paint.Plain c })

-- a block of a colour, and over it the paint that tells its line
abbrev pub block : Area → Look → List ℕ → List Shown
block a l text =
    plain a l.base ∷ Block (record { area = a; paint = l.paint }) text ∷ []

-- a red bar below a block
abbrev pub mark : Bool → Pen → ℕ → List Shown
mark true pen width = plain (area pen.x (plus pen.y 28) (width - 1) 6) colour.Red ∷ []
mark false pen width = []

abbrev pub block_area : Pen → ℕ → Area
block_area pen width = area pen.x pen.y (width - 1) 26

-- where the page over a block begins
abbrev pub page_head : Pen → Head
page_head pen = head (plus pen.x 5) (pen.y - 6) style.Edge

abbrev pub block_at : List Finding → Pen → ℕ → Run Said → List Shown
block_at findings pen width run =
    block (block_area pen width) (look_of pen.tree run.value.0) (text_of_line (line.Run run))
    ++ Above (page_head pen) (text_of_page run.pages.first.0)
    ∷ mark (list_any (names_run pen.tree run.pages.first.0) findings) pen width

-- the text of a line that is no run's
abbrev pub head_by : Pen → DumpLine → Head
head_by pen (line.Tree root tables) = head 12 (plus pen.y 60) style.Label
head_by pen (line.End trees faults) = head 12 (plus pen.y 56) style.Label
head_by pen other = head 12 (plus pen.y 56) style.Refused

-- the elements of a line
abbrev pub shown_line : List Finding → Pen → DumpLine → List Shown
shown_line findings pen (line.Run run) =
    block_at findings (placed pen (width_of run.pages.count)) (width_of run.pages.count) run
shown_line findings pen other = Words (head_by pen other) (text_of_line other) ∷ []

-- the elements of lines, one after another
unfoldable pub shown : List Finding → Pen → List DumpLine → List Shown
shown findings pen [] = []
shown findings pen (l ∷ ls) = shown_line findings pen l ++ shown findings (behind pen l) ls

-- ---- the picture

abbrev pub text_of_shown : Shown → List ℕ
text_of_shown (Filled rectangle) = text_of_filled rectangle
text_of_shown (Block rectangle text) = text_of_titled rectangle text
text_of_shown (Above head text) = text_of_words head text
text_of_shown (Words head text) = text_of_words head text

-- a block, and the text over it
abbrev pub text_of_block : Area → Look → List ℕ → Head → List ℕ → List ℕ
text_of_block a l text h over =
    flat_map text_of_shown (block a l text) ++ text_of_words h over

abbrev pub block_text : Pen → ℕ → Look → List ℕ → List ℕ → List ℕ
block_text pen width l text page =
    text_of_block (block_area pen width) l text (page_head pen) page

unfoldable pub entry : ℕ → ℕ → Look → List ℕ → List ℕ
entry x y l text =
    text_of_block (area x y 26 13) l text (head (plus x 32) (plus y 11) style.Label) text

unfoldable pub title : List ℕ
title = text_of_words (head 12 22 style.Title) (codes "Who owns what")

-- what colours and paints mean: whose pages are
unfoldable pub owners : List ℕ
owners =
    title ++ entry 12 34 (owned_by 0) (codes "host")
    ++ entry 110 34 (owned_by 1) (codes "hypervisor")
    ++ entry 250 34 (owned_by 2) (codes "guest 0, and so on")

-- the states of pages
unfoldable pub states : List ℕ
states =
    entry 440 34 (look colour.Ice (paint.Lines colour.Black)) (codes "shared, in black")
    ++ entry 590 34 (look colour.Pale (paint.Lines colour.Orange))
    (codes "borrowed, in its tree's colour")
    ++ entry 820 34 (look colour.Pale (paint.Dots colour.Orange)) (codes "no known state")
    ++ entry 12 54 (look colour.Pale (paint.Bars colour.Black)) (codes "a guest's, by its handle")

-- all else
unfoldable pub others : List ℕ
others =
    entry 250 54 (look colour.Pale (paint.Dots colour.Black)) (codes "nobody's")
    ++ entry 370 54 (look colour.White (paint.Bars colour.Red)) (codes "words that say nothing")
    ++ entry 590 54 (look colour.Red (paint.Plain colour.Red)) (codes "under what is unsound")

-- the colours that have patterns
unfoldable pub colours : List Colour
colours =
    colour.Black ∷ colour.Red ∷ colour.Ice ∷ colour.Orange ∷ colour.Green ∷ colour.Pink
    ∷ colour.Violet ∷ colour.Teal ∷ colour.Crimson ∷ colour.Lime ∷ colour.Purple
    ∷ colour.Brown ∷ []

-- the size of a picture whose elements end here
abbrev pub size_at : Pen → Size
size_at pen = record { width = 984; height = plus pen.y 100 }

-- a white area, and the legend over it
abbrev pub text_of_ground : Size → List ℕ
text_of_ground size =
    text_of_shown (plain (area 0 0 size.width size.height) colour.White)
    ++ owners ++ states ++ others

-- what comes before the elements of the report
abbrev pub text_before : Size → List ℕ
text_before size =
    text_of_opening size ++ flat_map text_of_patterns colours ++ text_of_ground size

-- the picture of a report
abbrev pub picture_of : List DumpLine → List ℕ
picture_of lines =
    text_before (size_at (last start lines))
    ++ flat_map text_of_shown (shown (findings_in lines) start lines) ++ codes "</svg>\n"
