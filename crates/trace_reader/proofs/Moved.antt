-- Bytes moved from those that are held to a line.
use Rattle.std.proofs.Common.{◌≡◌, ℕ, zero, suc, ◌+◌, ◌-◌, ◌<◌, ◌≤◌, refl, sym, ◌∙◌, ap, arith, ◌==◌, Bool, true, false, List, [], ◌∷◌, ◌++◌, length, take, drop, min, add-one, not, subst, Option, Some, None, slice_range, length-take, drop-drop}
use Rattle.std.specs.Prelude.{slice_index}
use Rattle.std.proofs.lemmas.Bool.Decides.{nat_tests}
use Rattle.std.proofs.lemmas.List.{append_assoc, take-append-drop, length-append, length-drop, drop-take, drop_min}
use Rattle.std.specs.Io.KnownBytes.{Keeps, Consumes, IsAtEnd, prepend_known}
use Rattle.memchr.specs.Find.{IsFirstByte, is_byte}
use Rattle.trace_reader.specs.Ahead.{Moves, held}
use Rattle.trace_reader.specs.declared.ahead.ReadAhead.{ReadAhead}
use Rattle.trace_reader.specs.Reading.{HasNoEnd, ReadsLine}
use Rattle.trace_reader.proofs.KnownBytes.{consumes_none, consumes_both, consumes_keeps, prepend_consumes, prepend_end}
use Rattle.trace_reader.proofs.LineLemmas.{plain-more, read_end, read_last, read_long}

no_test : (b : Bool) → (b ≡ true → ⊥) → b ≡ false
no_test true h = absurd (h refl)
no_test false h = refl

-- bytes none of which ends a line
no_end : (xs : List ℕ) → ((k : ℕ) → k < length xs → (slice_index xs k == 10) ≡ true → ⊥) → HasNoEnd xs
no_end [] h = tt
no_end (x ∷ xs) h = (no_test (x == 10) (h 0 (omega arith)), no_end xs (λ k l. h (suc k) (omega arith)))

no_end_before : (xs : List ℕ) (n : ℕ)
    → n < length xs
    → ((k : ℕ) → k < n → (slice_index xs k == 10) ≡ true → ⊥)
    → HasNoEnd (take n xs)
no_end_before [] n l h = absurd (omega arith)
no_end_before (x ∷ xs) zero l h = tt
no_end_before (x ∷ xs) (suc n) l h =
    (no_test (x == 10) (h 0 (omega arith)), no_end_before xs n (omega arith) (λ k l. h (suc k) (omega arith)))

-- the first that does, in a front of the bytes
cut_at : (all : List ℕ) (m n : ℕ)
    → n < length (take m all)
    → (slice_index (take m all) n == 10) ≡ true
    → all ≡ take n (take m all) ++ 10 ∷ drop (suc n) all
cut_at [] zero n l e = absurd (omega arith)
cut_at [] (suc m) n l e = absurd (omega arith)
cut_at (x ∷ xs) zero n l e = absurd (omega arith)
cut_at (x ∷ xs) (suc m) zero l e = let is : x ≡ 10 = grind (arith, nat_tests) in ap (λ y. y ∷ xs) is
cut_at (x ∷ xs) (suc m) (suc n) l e = ap (λ l. x ∷ l) (cut_at xs m n (omega arith) e)

front_length : (m n : ℕ) (all : List ℕ) → n < length (take m all) → length (take n (take m all)) ≡ n
front_length m n all l = length-take n (take m all) ∙ omega arith

pub moves_end : (all line after next : List ℕ) (m n : ℕ)
    → m ≡ min (257 - length line) (length all)
    → length line ≤ 256
    → IsFirstByte (is_byte 10) (take m all) (Some n)
    → next ≡ line ++ take n (take m all) → after ≡ drop (n + 1) all → Moves true all after line next
moves_end all line after next m n e fits first grown rest =
    let inside : n < length (take m all) = first.0.high in
    let count : length (take m all) ≡ m = length-take m all ∙ omega arith in
    let moved = front_length m n all inside in
    let all_rest : after ≡ drop (suc n) all = rest ∙ ap (λ k. drop k all) (add-one n) in
    record {
      moved = take n (take m all);
      plain = no_end_before (take m all) n inside (λ k l. first.0.before k (omega arith) l);
      grown = grown;
      rest = cut_at all m n inside first.1 ∙ ap (λ l. take n (take m all) ++ 10 ∷ l) (sym all_rest);
      most = let total = ap length grown ∙ length-append line (take n (take m all)) in
          omega (arith, total, moved, count);
      some = λ no_. absurd (let e = no_ in cc);
    }

pub moves_on : (all line after next : List ℕ) (m : ℕ)
    → m ≡ min (257 - length line) (length all)
    → length line ≤ 256
    → 0 < length all
    → IsFirstByte (is_byte 10) (take m all) None
    → next ≡ line ++ take m all → after ≡ drop (length (take m all)) all → Moves false all after line next
moves_on all line after next m e fits some first grown rest =
    let count : length (take m all) ≡ m = length-take m all ∙ omega arith in
    record {
      moved = take m all;
      plain = no_end (take m all) (λ k l. first k (omega arith) l);
      grown = grown;
      rest = sym (take-append-drop m all) ∙ ap (λ l. take m all ++ l) (sym (rest ∙ ap (λ k. drop k all) count));
      most = let total = ap length grown ∙ length-append line (take m all) in omega (arith, total, count);
      some = λ _. omega (arith, count);
    }

-- letting go of the first bytes of a range
drop-min-take : (k n : ℕ) (xs : List ℕ) → drop (min k n) (take k xs) ≡ drop n (take k xs)
drop-min-take k n xs =
    let front = take k xs in
    let same : min (min k n) (length front) ≡ min n (length front) = omega (arith, length-take k xs) in
    sym (drop_min (min k n) front) ∙ ap (λ m. drop m front) same ∙ drop_min n front

pub range_without : (xs : List ℕ) (a e n : ℕ) → slice_range xs (a + min (e - a) n) e ≡ drop n (slice_range xs a e)
range_without xs a e n =
    let m = min (e - a) n in
    let whole : m + (e - (a + m)) ≡ e - a = omega arith in
    ap (take (e - (a + m))) (sym (drop-drop m a xs))
    ∙ sym (drop-take m (e - (a + m)) (drop a xs))
    ∙ ap (λ k. drop m (take k (drop a xs))) whole
    ∙ drop-min-take (e - a) n (drop a xs)

-- what is held is not nothing
pub held_some : (a : ReadAhead) → a.start < a.end → 0 < length (held a)
held_some a h = let inside = a.inside in
    omega (
      arith,
      length-take (a.end - a.start) (drop a.start a.bytes.items),
      length-drop a.start a.bytes.items,
      a.bytes.ok,
    )

-- bytes of a line that go from what is held
moved_off : (rest : Option (List ℕ)) (ended : Bool) (before after line next : List ℕ)
    (m : Moves ended before after line next)
    → ended ≡ false
    → Consumes (prepend_known before rest) (prepend_known after rest) m.moved
moved_off rest ended before after line next m e = prepend_consumes rest before after m.moved (rw e at m.rest)

moved_end : (rest : Option (List ℕ)) (ended : Bool) (before after line next : List ℕ)
    (m : Moves ended before after line next)
    → ended ≡ true
    → Consumes (prepend_known before rest) (prepend_known after rest) (m.moved ++ 10 ∷ [])
moved_end rest ended before after line next m e = let r = rw e at m.rest in
    prepend_consumes rest before after (m.moved ++ 10 ∷ []) (r ∙ sym (rw append_assoc refl))

-- a line so far, of all bytes, and more of it
module _ (all left rest : Option (List ℕ)) (ended : Bool) (before after line next : List ℕ)
    (so_far : Consumes all left line) (filled : Keeps left (prepend_known before rest)) (plain : HasNoEnd line)
    (m : Moves ended before after line next) where
  pub next_plain : HasNoEnd next
  next_plain = rw m.grown (plain-more line m.moved plain m.plain)

  pub next_bytes : ended ≡ false → Consumes all (prepend_known after rest) next
  next_bytes e =
      rw m.grown
      (consumes_both all (prepend_known before rest) _ line m.moved (consumes_keeps all left _ line so_far filled)
      (moved_off rest ended before after line next m e))

  pub ends_line : ended ≡ true → ReadsLine true all (prepend_known after rest) next
  ends_line e =
      let most = rw e at m.most in
      let bytes =
      consumes_both all (prepend_known before rest) _ line (m.moved ++ 10 ∷ [])
      (consumes_keeps all left _ line so_far filled) (moved_end rest ended before after line next m e) in
      let same : line ++ (m.moved ++ 10 ∷ []) ≡ next ++ 10 ∷ [] =
      sym (rw append_assoc refl) ∙ ap (λ ls. ls ++ 10 ∷ []) (sym m.grown) in
      read_end all _ next (subst (Consumes all (prepend_known after rest)) same bytes) next_plain most

  pub is_long : ended ≡ false → 256 < length next → ReadsLine true all (prepend_known after rest) next
  is_long e long = let most = rw e at m.most in read_long all _ next (next_bytes e) next_plain (omega arith)

  pub longer : ended ≡ false → length line + 1 ≤ length next
  longer e = let total = ap length m.grown ∙ length-append line m.moved in
      let some = m.some e in
      omega (arith, total, some)

-- nothing is left to be given
pub is_last : (all left rest : Option (List ℕ)) (before line : List ℕ) (found : Bool)
    → Consumes all left line
    → Keeps left (prepend_known before rest)
    → before ≡ []
    → IsAtEnd rest
    → HasNoEnd line
    → length line ≤ 256
    → found ≡ not (length line == 0)
    → ReadsLine found all (prepend_known before rest) line
is_last all left rest before line found so_far filled none end plain few is =
    read_last all (prepend_known before rest) _ line found (consumes_keeps all left _ line so_far filled)
    (consumes_none _) (prepend_end rest before none end) plain few is
