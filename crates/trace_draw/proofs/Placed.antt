-- Rectangles that were put behind others, and edges from left to right.
use Rattle.std.proofs.Common.{◌≡◌, ◌∙◌, ℕ, zero, suc, ◌+◌, ◌-◌, ◌<◌, List, [], ◌∷◌, ◌++◌, length, get_or, Result, Ok, Err, IfOk, Some, refl, sym, ap, subst, arith, inl, inr}
use Rattle.std.specs.Prelude.{min, slice_get}
use Rattle.std.proofs.lemmas.Bool.{cases_lt}
use Rattle.std.proofs.lemmas.List.{length-append}
use Rattle.trace_draw.specs.Pictures.{AreDrawn, AreEdges, HasRectangle, IsPicture, IsPiece, IsRight, SpansColumn}
use Rattle.svg_elements.specs.Items.{text_of_picture}
use Rattle.trace_draw.specs.declared.columns.Column.{Column}
use Rattle.svg_elements.specs.declared.item.Area.{Area}
use Rattle.svg_elements.specs.declared.item.Item.{Item}
use Rattle.svg_elements.specs.declared.item.Item.TheVariants as items
use Rattle.svg_elements.specs.declared.item.Size.{Size}

kept : {X : Type 0} (xs ys : List X) (i : ℕ) (x : X) → slice_get xs i ≡ Some x → slice_get (xs ++ ys) i ≡ Some x
kept [] ys i x e = absurd (let h = e in cc)
kept (y ∷ xs) ys zero x e = e
kept (y ∷ xs) ys (suc i) x e = kept xs ys i x e

placed : {X : Type 0} (xs ys : List X) (x : X) → slice_get (xs ++ (x ∷ ys)) (length xs) ≡ Some x
placed [] ys x = refl
placed (y ∷ xs) ys x = placed xs ys x

has_more : (elements ys : List Item) (left right : ℕ)
    → HasRectangle elements left right
    → HasRectangle (elements ++ ys) left right
has_more elements ys left right h =
    record {
      place = h.place;
      rectangle = h.rectangle;
      element = kept elements ys h.place _ h.element;
      left_is = h.left_is;
      width_is = h.width_is;
    }

-- a rectangle for one column more
pub drawn_more : (elements new : List Item) (edges : List ℕ) (k : ℕ) (area : Area)
    → AreDrawn elements edges k
    → SpansColumn edges k area
    → k + 1 < length edges
    → IsPiece area elements new
    → AreDrawn new edges (k + 1)
drawn_more elements new edges k area drawn spans room (paint, marks, is) j below =
    elim (cases_lt j k) [
      | inl less ↦ subst (λ es. HasRectangle es (get_or edges j 0) (get_or edges (j + 1) 0)) (sym is)
          (has_more elements _ _ _ (drawn j less))
      | inr more ↦
          let at : j ≡ k = omega (arith, below, more) in
          let here : HasRectangle new (get_or edges k 0) (get_or edges (k + 1) 0) = record {
            place = length elements;
            rectangle = record { area = area; paint = paint };
            element =
                subst
                (λ es. slice_get es (length elements)
                ≡ Some (items.Rectangle (record { area = area; paint = paint })))
                (sym is) (placed elements marks (items.Rectangle (record { area = area; paint = paint })));
            left_is = (spans room).0;
            width_is = (spans room).1;
          } in
          subst (λ n. HasRectangle new (get_or edges n 0) (get_or edges (n + 1) 0)) (sym at) here
    ]

-- edges from left to right so far
abbrev pub IsOrdered : List ℕ → Type 0
IsOrdered edges = (k : ℕ) → k + 1 < length edges → IsRight (get_or edges k 0) (get_or edges (k + 1) 0)

-- and the next, which is right of the last
abbrev pub IsBefore : List ℕ → ℕ → Type 0
IsBefore edges at = (k : ℕ) → k + 1 ≡ length edges → IsRight (get_or edges k 0) at

pub right_of : (at width new : ℕ) → 0 < width → new ≡ min (at + width) 18446744073709551615 → IsRight at new
right_of at width new some is =
    elim (cases_lt (at + width) 18446744073709551615) [
      | inl less ↦ inl (omega (arith, some, is, less))
      | inr more ↦ inr (omega (arith, is, more))
    ]

last_is : (edges : List ℕ) (at k : ℕ) → k ≡ length edges → get_or (edges ++ (at ∷ [])) k 0 ≡ at
last_is [] at zero e = refl
last_is [] at (suc k) e = absurd (omega (arith, e))
last_is (x ∷ edges) at zero e = absurd (omega (arith, e))
last_is (x ∷ edges) at (suc k) e = last_is edges at k (omega (arith, e))

stays : (edges : List ℕ) (at k : ℕ) → k < length edges → get_or (edges ++ (at ∷ [])) k 0 ≡ get_or edges k 0
stays [] at k h = absurd (omega (arith, h))
stays (x ∷ edges) at zero h = refl
stays (x ∷ edges) at (suc k) h = stays edges at k (omega (arith, h))

pub order_more : (edges new : List ℕ) (at : ℕ)
    → IsOrdered edges
    → IsBefore edges at
    → new ≡ edges ++ (at ∷ [])
    → IsOrdered new
order_more edges new at order before is k h =
    let h' : k + 1 < length edges + 1 = omega (arith, h, ap length is, length-append edges (at ∷ [])) in
    subst (λ es. IsRight (get_or es k 0) (get_or es (k + 1) 0)) (sym is)
    (elim (cases_lt (k + 1) (length edges)) [
      | inl less ↦
          subst (λ x. IsRight x (get_or (edges ++ (at ∷ [])) (k + 1) 0)) (sym (stays edges at k (omega (arith, less))))
          (subst (λ y. IsRight (get_or edges k 0) y) (sym (stays edges at (k + 1) less)) (order k less))
      | inr more ↦
          let last : k + 1 ≡ length edges = omega (arith, h', more) in
          subst (λ x. IsRight x (get_or (edges ++ (at ∷ [])) (k + 1) 0)) (sym (stays edges at k (omega (arith, last))))
          (subst (λ y. IsRight (get_or edges k 0) y) (sym (last_is edges at (k + 1) last)) (before k last))
    ])

pub before_more : (edges new : List ℕ) (at next : ℕ) → new ≡ edges ++ (at ∷ []) → IsRight at next → IsBefore new next
before_more edges new at next is right k e =
    let last : k ≡ length edges = omega (arith, e, ap length is, length-append edges (at ∷ [])) in
    subst (λ es. IsRight (get_or es k 0) next) (sym is)
    (subst (λ x. IsRight x next) (sym (last_is edges at k last)) right)

pub whole_edges : (edges new : List ℕ) (at count : ℕ)
    → length edges ≡ count
    → IsOrdered edges
    → IsBefore edges at
    → new ≡ edges ++ (at ∷ [])
    → AreEdges count new
whole_edges edges new at count is_count order before is =
    let all : length new ≡ count + 1 = omega (arith, is_count, ap length is, length-append edges (at ∷ [])) in
    record { count_is = all; order = λ k h. order_more edges new at order before is k (omega (arith, all, h)) }

shifted : {X : Type 0} (xs ys : List X) (i : ℕ) → slice_get (xs ++ ys) (length xs + i) ≡ slice_get ys i
shifted [] ys i =
    let e : 0 + i ≡ i = omega arith in
    ap (λ n. slice_get ys n) e
shifted (x ∷ xs) ys i =
    let e : suc (length xs) + i ≡ suc (length xs + i) = omega arith in
    ap (λ n. slice_get (x ∷ (xs ++ ys)) n) e ∙ shifted xs ys i

has_before : (xs elements : List Item) (left right : ℕ)
    → HasRectangle elements left right
    → HasRectangle (xs ++ elements) left right
has_before xs elements left right h =
    record {
      place = length xs + h.place;
      rectangle = h.rectangle;
      element = shifted xs elements h.place
          ∙ h.element;
      left_is = h.left_is;
      width_is = h.width_is;
    }

-- a picture whose cells are between other elements
pub picture_with : {X E : Type 0} (bytes : X → List ℕ) (r : Result X E) (columns : List Column) (size : Size)
    (ground cells over : List Item) (edges : List ℕ)
    → AreEdges (length columns) edges
    → AreDrawn cells edges (length columns)
    → IfOk r (λ svg. bytes svg ≡ text_of_picture size (ground ++ cells ++ over))
    → IfOk r (λ svg. IsPicture columns (bytes svg))
picture_with bytes (Ok svg) columns size ground cells over edges beside drawn text =
    record {
      size = size;
      elements = ground ++ cells
          ++ over;
      text =
          text;
      edges =
          edges;
      beside =
          beside;
      drawn =
          λ k h. has_more (ground ++ cells) over _ _ (has_before ground cells _ _ (drawn k h));
    }
picture_with bytes (Err e) columns size ground cells over edges beside drawn text = tt
