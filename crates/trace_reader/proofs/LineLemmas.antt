-- Lines, cut from the bytes of a trace.
use Rattle.std.proofs.Common.{◌≡◌, ℕ, ◌<◌, ◌≤◌, refl, sym, ◌∙◌, ap, arith, ◌==◌, Bool, true, false, not, cond, List, [], ◌∷◌, ◌++◌, length, Option, Some, None}
use Rattle.std.proofs.lemmas.List.{append_assoc, append-nil, length-append, take_all, take-append-le}
use Rattle.std.proofs.lemmas.Bool.Decides.{nat_tests}
use Rattle.std.specs.List.{slice_split, onto_first}
use Rattle.std.specs.Io.KnownBytes.{Consumes, IsAtEnd}
use Rattle.trace_reader.specs.Reading.{HasNoEnd, lines_of, without_empty_last, IsFirstLine, ReadsLine}

pub plain-more : (xs ys : List ℕ) → HasNoEnd xs → HasNoEnd ys → HasNoEnd (xs ++ ys)
plain-more [] ys p q = q
plain-more (x ∷ xs) ys p q = (p.0, plain-more xs ys p.1 q)

-- what stands before, between and behind the ends of lines
abbrev pub parts : List ℕ → List (List ℕ)
parts bytes = slice_split (λ byte. byte == 10) bytes

-- there is a first part
nonempty : (bytes : List ℕ) → (first : List ℕ) × (more : List (List ℕ)) × (parts bytes ≡ first ∷ more)
nonempty [] = ([], [], refl)
nonempty (x ∷ xs) =
    let inner = nonempty xs in
    elim
    (x == 10) as (λ b. (first : List ℕ)
    × (more : List (List ℕ))
    × (cond b ([] ∷ parts xs) (onto_first x (parts xs)) ≡ first ∷ more))
    [ true ↦ ([], parts xs, refl) | false ↦ (x ∷ inner.0, inner.1, ap (onto_first x) inner.2) ]

pub ended : (line rest : List ℕ) → HasNoEnd line → parts (line ++ 10 ∷ rest) ≡ line ∷ parts rest
ended [] rest p = refl
ended (x ∷ xs) rest p = rw p.0 (ap (onto_first x) (ended xs rest p.1))

pub alone : (line : List ℕ) → HasNoEnd line → parts line ≡ line ∷ []
alone [] p = refl
alone (x ∷ xs) p = rw p.0 (ap (onto_first x) (alone xs p.1))

begun : (line rest : List ℕ)
    → HasNoEnd line
    → (whole : List ℕ) × (more : List (List ℕ)) × (parts (line ++ rest) ≡ (line ++ whole) ∷ more)
begun [] rest p = nonempty rest
begun (x ∷ xs) rest p = let inner = begun xs rest p.1 in (inner.0, inner.1, rw p.0 (ap (onto_first x) inner.2))

-- a part that isn't the last stays
pub stays : (part : List ℕ) (bytes : List ℕ)
    → without_empty_last (part ∷ parts bytes) ≡ part ∷ without_empty_last (parts bytes)
stays part bytes = let some = nonempty bytes in rw some.2 refl

-- a part with a byte stays
stays_long : (part : List ℕ) (more : List (List ℕ))
    → 0 < length part
    → (rest : List (List ℕ)) × (without_empty_last (part ∷ more) ≡ part ∷ rest)
stays_long [] more h = absurd (omega arith)
stays_long (x ∷ xs) [] h = ([], grind (arith, nat_tests))
stays_long (x ∷ xs) (next ∷ more) h = (without_empty_last (next ∷ more), refl)

-- a line that was read with its end
pub at_end : (line left : List ℕ) → HasNoEnd line → length line ≤ 256 → IsFirstLine (line ++ 10 ∷ left) line (Some left)
unfolding lines_of
at_end line left p short = record {
  whole = line;
  rest = lines_of left;
  lines = rw (ended line left p) (stays line left);
  read = sym (take_all 257 line (omega arith));
  next = λ _. refl;
}

-- a part with a byte that is the only one stays
pub only : (line : List ℕ) → 0 < length line → without_empty_last (line ∷ []) ≡ line ∷ []
only line some = grind (arith, nat_tests)

-- a last line without an end
pub at_last : (line : List ℕ) → HasNoEnd line → 0 < length line → length line ≤ 256 → IsFirstLine line line (Some [])
unfolding lines_of
at_last line p some short = record {
  whole = line;
  rest = [];
  lines = rw (alone line p) (only line some);
  read = sym (take_all 257 line (omega arith));
  next = λ _. refl;
}

-- a front of a line that is too long
pub at_long : (line rest : List ℕ) (left : Option (List ℕ))
    → HasNoEnd line
    → length line ≡ 257
    → IsFirstLine (line ++ rest) line left
unfolding lines_of
at_long line rest left p long =
    let cut = begun line rest p in
    let kept = stays_long (line ++ cut.0) cut.1 (omega (arith, length-append line cut.0)) in
    record {
      whole = line ++ cut.0;
      rest = kept.0;
      lines = rw cut.2 kept.1;
      read = sym (take-append-le 257 line cut.0 (omega arith) ∙ take_all 257 line (omega arith));
      next = λ short. absurd (omega (arith, length-append line cut.0));
    }

pub read_end : (all left : Option (List ℕ)) (line : List ℕ)
    → Consumes all left (line ++ 10 ∷ [])
    → HasNoEnd line
    → length line ≤ 256
    → ReadsLine true all left line
read_end None left line h p short = tt
read_end (Some bytes) None line h p short = absurd h
read_end (Some bytes) (Some rest) line h p short =
    let same : bytes ≡ line ++ 10 ∷ rest = h ∙ rw append_assoc refl in rw same (at_end line rest p short)

pub read_last : (all now left : Option (List ℕ)) (line : List ℕ) (found : Bool)
    → Consumes all now line
    → Consumes now left []
    → IsAtEnd now
    → HasNoEnd line → length line ≤ 256 → found ≡ not (length line == 0) → ReadsLine found all left line
read_last None now left line found h k e p short f = tt
read_last (Some bytes) None left line found h k e p short f = absurd h
read_last (Some bytes) (Some rest) None line found h k e p short f = absurd k
read_last (Some bytes) (Some rest) (Some more) [] found h k e p short f = rw f (h ∙ e)
read_last (Some bytes) (Some rest) (Some more) (x ∷ xs) found h k e p short f =
    let same : bytes ≡ x ∷ xs = h ∙ rw e (append-nil (x ∷ xs)) in
    let none : more ≡ [] = sym k ∙ e in
    let yes : found ≡ true = f ∙ grind (arith, nat_tests) in
    rw (yes, same, none) (at_last (x ∷ xs) p (omega arith) short)

pub read_long : (all left : Option (List ℕ)) (line : List ℕ)
    → Consumes all left line
    → HasNoEnd line
    → length line ≡ 257
    → ReadsLine true all left line
read_long None left line h p long = tt
read_long (Some bytes) None line h p long = absurd h
read_long (Some bytes) (Some rest) line h p long = rw h (at_long line rest (Some rest) p long)
