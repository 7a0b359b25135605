-- What a picture shows of memory (profile).
use Rattle.std.specs.Prelude.{◌≡◌, ◌⊎◌, ℕ, ◌+◌, ◌-◌, ◌<◌, List, ◌∷◌, ◌++◌, Some, length, get_or, slice_get}
use Rattle.trace_draw.specs.Columns.{frames_drawn, frames_of}
use Rattle.trace_draw.specs.Courses.{IsRunOf}
use Rattle.trace_draw.specs.declared.columns.Column.{Column}
use Rattle.trace_draw.specs.declared.course.Ended.{Ended}
use Rattle.trace_draw.specs.declared.course.Scene.{Scene}
use Rattle.svg_elements.specs.declared.item.Area.{Area}
use Rattle.svg_elements.specs.declared.item.Item.{Item}
use Rattle.svg_elements.specs.declared.item.Item.TheVariants as items
use Rattle.svg_elements.specs.declared.item.Paint.{Paint}
use Rattle.svg_elements.specs.declared.item.Rectangle.{Rectangle}
use Rattle.svg_elements.specs.declared.item.Size.{Size}
use Rattle.svg_elements.specs.Items.{text_of_picture}
use Rattle.trace_text.specs.Session.{Standing}

-- an edge is right of another, or the last that a number of 64 bits can be
abbrev pub IsRight : ℕ → ℕ → Type 0
IsRight left right = (left < right) ⊎ (right ≡ 18446744073709551615)

-- the left edges of `count` columns, from left to right, and the right edge of the last
pub record AreEdges (count : ℕ) (edges : List ℕ) : Type 0 where
  pub count_is : length edges ≡ count + 1
  pub order : (k : ℕ) → k < count → IsRight (get_or edges k 0) (get_or edges (k + 1) 0)

-- among elements a rectangle from one edge up to a pixel before another
pub record HasRectangle (elements : List Item) (left right : ℕ) : Type 0 where
  pub place : ℕ
  pub rectangle : Rectangle
  pub element : slice_get elements place ≡ Some (items.Rectangle rectangle)
  pub left_is : rectangle.area.x ≡ left
  pub width_is : rectangle.area.width ≡ right - left - 1

-- an area from a column's left edge up to a pixel before the next
abbrev pub SpansColumn : List ℕ → ℕ → Area → Type 0
SpansColumn edges column area =
    column + 1 < length edges
    → (area.x ≡ get_or edges column 0)
    × (area.width ≡ get_or edges (column + 1) 0 - get_or edges column 0 - 1)

-- elements to which a rectangle was added, and marks over it
abbrev pub IsPiece : Area → List Item → List Item → Type 0
IsPiece area old new =
    (paint : Paint)
    × (marks : List Item)
    × (new ≡ old ++ items.Rectangle (record { area = area; paint = paint }) ∷ marks)

-- a rectangle for each of `count` columns
abbrev pub AreDrawn : List Item → List ℕ → ℕ → Type 0
AreDrawn elements edges count =
    (k : ℕ) → k < count → HasRectangle elements (get_or edges k 0) (get_or edges (k + 1) 0)

-- a picture of columns: whole elements between its opening and its end, a rectangle for each column
-- among them
pub record IsPicture (columns : List Column) (svg : List ℕ) : Type 0 where
  pub size : Size
  pub elements : List Item
  pub text : svg ≡ text_of_picture size elements
  pub edges : List ℕ
  pub beside : AreEdges (length columns) edges
  pub drawn : AreDrawn elements edges (length columns)

-- a picture of scenes: its columns have their frames, none left out, twice, or out of its order
abbrev pub ShowsScenes : List Scene → List ℕ → Type 0
ShowsScenes scenes svg =
    (columns : List Column) × (frames_of columns ≡ frames_drawn scenes) × IsPicture columns svg

-- a picture of the run of a trace, and how that ends. No field says that the scenes are those of
-- the run
pub record IsDrawing (trace : List ℕ) (ended : Ended) (svg : List ℕ) : Type 0 where
  pub standing : Standing
  pub run : IsRunOf trace standing ended
  pub scenes : List Scene
  pub picture : ShowsScenes scenes svg
