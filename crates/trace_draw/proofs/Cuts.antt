-- Columns that are cut have the same frames.
use Rattle.std.proofs.Common.{◌≡◌, ℕ, zero, suc, ◌+◌, ◌-◌, ◌<◌, ◌≤◌, List, [], ◌∷◌, ◌++◌, refl, arith, sym, ap, ◌∙◌}
use Rattle.std.specs.List.{range_with_len}
use Rattle.std.proofs.lemmas.Grind.{flat_map-append}
use Rattle.std.proofs.lemmas.List.{append-nil, append_assoc}
use Rattle.trace_draw.specs.declared.bands.Look.{Look}
use Rattle.trace_draw.specs.declared.columns.Column.{Column}
use Rattle.trace_draw.specs.Columns.{frames_of, frames_of_column}

range_split : (a n m : ℕ) → range_with_len a (n + m) ≡ range_with_len a n ++ range_with_len (a + n) m
range_split a zero m =
    let e : zero + m ≡ m = omega arith in
    let f : a + zero ≡ a = omega arith in
    rw (e, f) refl
range_split a (suc n) m =
    let e : suc n + m ≡ suc (n + m) = omega arith in
    let f : a + suc n ≡ a + 1 + n = omega arith in
    rw (e, f) (ap (λ r. a ∷ r) (range_split (a + 1) n m))

frames_push : (cs : List Column) (c : Column) → frames_of (cs ++ (c ∷ [])) ≡ frames_of cs ++ frames_of_column c
frames_push cs c =
    flat_map-append frames_of_column cs (c ∷ []) ∙ ap (λ t. frames_of cs ++ t) (append-nil (frames_of_column c))

-- the last piece
pub last_piece : (cs new : List Column) (left : Column) (all : List ℕ)
    → frames_of cs ++ frames_of_column left ≡ all
    → new ≡ cs ++ (left ∷ [])
    → frames_of new ≡ all
last_piece cs new left all e more = ap frames_of more ∙ frames_push cs left ∙ e

-- a piece that is cut off
pub cut_off : (cs new : List Column) (first count end : ℕ) (look : Look) (all : List ℕ)
    → first < end
    → end ≤ first + count
    → frames_of cs ++ range_with_len first count ≡ all
    → new ≡ cs ++ (record { first = first; count = end - first; look = look } ∷ [])
    → frames_of new ++ range_with_len end (count - (end - first)) ≡ all
cut_off cs new first count end look all h k e more =
    let n = end - first in
    let m = count - n in
    let whole : n + m ≡ count = omega (arith, h, k) in
    let at : first + n ≡ end = omega (arith, h) in
    let split : range_with_len first count ≡ range_with_len first n ++ range_with_len end m =
    ap (range_with_len first) (sym whole) ∙ range_split first n m
    ∙ ap (λ a. range_with_len first n ++ range_with_len a m) at in
    ap (λ t. t ++ range_with_len end m)
    (ap frames_of more ∙ frames_push cs (record { first = first; count = n; look = look }))
    ∙ append_assoc (frames_of cs) (range_with_len first n) (range_with_len end m)
    ∙ ap (λ t. frames_of cs ++ t) (sym split) ∙ e
