-- The bytes of lines, read back.
use Rattle.std.proofs.Common.{◌≡◌, ℕ, suc, ◌+◌, ◌-◌, ◌<◌, ◌≤◌, refl, sym, ◌∙◌, ap, arith, ◌==◌, not, Bool, true, false, List, [], ◌∷◌, ◌++◌, length, take, Some, None}
use Rattle.std.specs.Prelude.{slice_get, if◌then◌else◌}
use Rattle.std.proofs.lemmas.List.{append_assoc, append-nil, length-append}
use Rattle.std.proofs.lemmas.Bool.Decides.{nat_tests}
use Rattle.trace_reader.specs.Reading.{HasNoEnd, lines_of}
use Rattle.trace_reader.proofs.LinesBack.{HaveNoEnds, line_first, line_last}
use Rattle.trace_check.specs.Records.{bytes_of, lacks_end, ends_empty}

off : {P : Type 0} → true ≡ false → P
off h = cc

-- the last place of a list, counted from one end on
less_one : {X : Type 0} (x y : X) (xs : List X) → length (x ∷ y ∷ xs) - 1 ≡ suc (length (y ∷ xs) - 1)
less_one x y xs = omega arith

-- what is said of the last of a list, and of the last but for its first
lacks_step : (x y : ℕ) (xs : List ℕ) → lacks_end (x ∷ y ∷ xs) ≡ lacks_end (y ∷ xs)
lacks_step x y xs =
    ap (λ n. elim (slice_get (x ∷ y ∷ xs) n) as (λ _. Bool) [ None ↦ false | Some byte ↦ not (byte == 10) ])
    (less_one x y xs)

empty_step : (x y : List ℕ) (xs : List (List ℕ)) → ends_empty (x ∷ y ∷ xs) ≡ ends_empty (y ∷ xs)
empty_step x y xs =
    ap (λ n. elim (slice_get (x ∷ y ∷ xs) n) as (λ _. Bool) [ None ↦ true | Some line ↦ length line == 0 ])
    (less_one x y xs)

-- the bytes of a line and of those after it
line_bytes : (line : List ℕ) (rest : List (List ℕ)) → bytes_of (line ∷ rest) ≡ line ++ 10 ∷ bytes_of rest
line_bytes line rest = append_assoc line (10 ∷ []) (bytes_of rest)

-- lines with their ends are read back
pub bytes_back : (lines : List (List ℕ)) → HaveNoEnds lines → lines_of (bytes_of lines) ≡ lines
unfolding lines_of
bytes_back [] h = refl
bytes_back (line ∷ rest) h =
    ap lines_of (line_bytes line rest) ∙ line_first line (bytes_of rest) h.0
    ∙ ap (λ more. line ∷ more) (bytes_back rest h.1)

-- bytes without the last of them
abbrev front : List ℕ → List ℕ
front bytes = take (length bytes - 1) bytes

front_step : (x y : ℕ) (xs : List ℕ) → front (x ∷ y ∷ xs) ≡ x ∷ front (y ∷ xs)
front_step x y xs = ap (λ n. take n (x ∷ y ∷ xs)) (less_one x y xs)

front_more : (xs : List ℕ) (byte : ℕ) (more : List ℕ) → front (xs ++ byte ∷ more) ≡ xs ++ front (byte ∷ more)
front_more [] byte more = refl
front_more (x ∷ []) byte more = front_step x byte more
front_more (x ∷ y ∷ xs) byte more = front_step x y (xs ++ byte ∷ more) ∙ ap (λ l. x ∷ l) (front_more (y ∷ xs) byte more)

-- the front of the bytes of lines: of one line, and of more
front_one : (line : List ℕ) → front (bytes_of (line ∷ [])) ≡ line
front_one line = ap front (line_bytes line []) ∙ front_more line 10 [] ∙ append-nil line

some_bytes : (next : List ℕ) (rest : List (List ℕ))
    → (byte : ℕ) × (more : List ℕ) × (bytes_of (next ∷ rest) ≡ byte ∷ more)
some_bytes [] rest = (10, bytes_of rest, refl)
some_bytes (byte ∷ next) rest = (byte, (next ++ 10 ∷ []) ++ bytes_of rest, refl)

front_next : (line next : List ℕ) (rest : List (List ℕ))
    → front (bytes_of (line ∷ next ∷ rest)) ≡ line ++ 10 ∷ front (bytes_of (next ∷ rest))
front_next line next rest =
    let some = some_bytes next rest in
    ap front (line_bytes line (next ∷ rest)) ∙ front_more line 10 (bytes_of (next ∷ rest))
    ∙ ap (λ l. line ++ l)
    (ap (λ b. front (10 ∷ b)) some.2 ∙ front_step 10 some.0 some.1 ∙ ap (λ b. 10 ∷ front b) (sym some.2))

-- lines whose last lacks its end are read back, where it has a byte
pub front_back : (lines : List (List ℕ))
    → HaveNoEnds lines
    → ends_empty lines ≡ false
    → lines_of (front (bytes_of lines)) ≡ lines
front_back [] h e = off e
front_back (line ∷ []) h e = ap lines_of (front_one line) ∙ line_last line h.0 (grind (arith, nat_tests))
front_back (line ∷ next ∷ rest) h e =
    ap lines_of (front_next line next rest) ∙ line_first line (front (bytes_of (next ∷ rest))) h.0
    ∙ ap (λ more. line ∷ more) (front_back (next ∷ rest) h.1 (sym (empty_step line next rest) ∙ e))

-- the last byte of bytes that end in these
last_more : (xs : List ℕ) (byte : ℕ) (more : List ℕ) → lacks_end (xs ++ byte ∷ more) ≡ lacks_end (byte ∷ more)
last_more [] byte more = refl
last_more (x ∷ []) byte more = lacks_step x byte more
last_more (x ∷ y ∷ xs) byte more = lacks_step x y (xs ++ byte ∷ more) ∙ last_more (y ∷ xs) byte more

last_line : (line : List ℕ) → HasNoEnd line → (length line == 0) ≡ false → lacks_end line ≡ true
last_line [] h e = off e
last_line (x ∷ []) h e = ap not h.0
last_line (x ∷ y ∷ xs) h e = lacks_step x y xs ∙ last_line (y ∷ xs) h.1 (grind (arith, nat_tests))

-- whether the last of joined lines lacks its end
pub ended_back : (lines : List (List ℕ)) → lacks_end (bytes_of lines) ≡ false
ended_back [] = refl
ended_back (line ∷ []) = ap lacks_end (line_bytes line []) ∙ last_more line 10 []
ended_back (line ∷ next ∷ rest) =
    let some = some_bytes next rest in
    ap lacks_end (line_bytes line (next ∷ rest)) ∙ last_more line 10 (bytes_of (next ∷ rest))
    ∙ ap (λ b. lacks_end (10 ∷ b)) some.2 ∙ lacks_step 10 some.0 some.1 ∙ ap lacks_end (sym some.2)
    ∙ ended_back (next ∷ rest)

still_lacks : (bytes : List ℕ) → lacks_end bytes ≡ true → lacks_end (10 ∷ bytes) ≡ true
still_lacks [] h = cc
still_lacks (x ∷ xs) h = lacks_step 10 x xs ∙ h

pub lacking_back : (lines : List (List ℕ))
    → HaveNoEnds lines
    → ends_empty lines ≡ false
    → lacks_end (front (bytes_of lines)) ≡ true
lacking_back [] h e = off e
lacking_back (line ∷ []) h e = ap lacks_end (front_one line) ∙ last_line line h.0 e
lacking_back (line ∷ next ∷ rest) h e =
    ap lacks_end (front_next line next rest) ∙ last_more line 10 (front (bytes_of (next ∷ rest)))
    ∙ still_lacks (front (bytes_of (next ∷ rest)))
    (lacking_back (next ∷ rest) h.1 (sym (empty_step line next rest) ∙ e))
