-- Expectations are comments, which do nothing.
use Rattle.std.proofs.Common.{◌≡◌, refl, ◌∙◌, ap, ℕ, ◌+◌, Bool, true, false, not, ◌&&◌, nat_lt, List, [], ◌∷◌, ◌++◌, length, map, take, drop, Some, None, Ok, codes}
use Rattle.std.specs.Prelude.{is_some, if◌then◌else◌}
use Rattle.std.specs.List.{list_all}
use Rattle.std.specs.Str.{bytes_eq}
use Rattle.std.proofs.lemmas.Slice.Eq.{bytes_eq-Decides}
use Rattle.trace_lines.specs.declared.place.Allows.{Allows}
use Rattle.trace_lines.specs.Said.{said}
use Rattle.trace_lines.specs.Settings.{Told}
use Rattle.trace_words.specs.Words.{has_stray_byte, is_silent}
use Rattle.trace_check.specs.Expectations.{comment, expectation, expected_first}

-- an expectation: what it expects, and that it says nothing
pub record IsComment (line : List ℕ) : Type 0 where
  pub value : expectation line ≡ Some (drop 3 line)
  pub short : nat_lt 256 (length line) ≡ false
  pub plain : has_stray_byte line ≡ false
  pub silent : is_silent line ≡ true

off : {P : Type 0} → false ≡ true → P
off h = cc

-- bytes that begin with these are no line that says something
begins : (line : List ℕ) → bytes_eq (take 3 line) (codes "#= ") ≡ true → is_silent line ≡ true
begins [] h = refl
begins (first ∷ rest) h =
    let same = ((bytes_eq-Decides (take 3 (first ∷ rest)) (codes "#= ")).0 h) in
    let is : first ≡ 35 = cc in rw is refl

-- the tests of an expectation, one after another
tested : (line : List ℕ) (long short stray mark : Bool)
    → is_some
    (if long then None
    else (if short then None else (if stray then None else (if not mark then None else Some (drop 3 line)))))
    ≡ true
    → (long ≡ false) × (stray ≡ false) × (mark ≡ true)
    × ((if long then None
    else (if short then None else (if stray then None else (if not mark then None else Some (drop 3 line)))))
    ≡ Some (drop 3 line))
tested line true short stray mark h = off h
tested line false true stray mark h = off h
tested line false false true mark h = off h
tested line false false false false h = off h
tested line false false false true h = (refl, refl, refl, refl)

pub as_comment : (line : List ℕ) → is_some (expectation line) ≡ true → IsComment line
unfolding expectation
as_comment line h =
    let t =
    tested line (nat_lt 256 (length line)) (nat_lt (length line) 3) (has_stray_byte line)
    (bytes_eq (take 3 line) (codes "#= ")) h in
    record { value = t.3; short = t.0; plain = t.1; silent = begins line t.2 }

-- it says nothing wherever it is
pub says_nothing : (line : List ℕ) (allows : Allows) (told : Told) → IsComment line → said allows told line ≡ Ok None
unfolding said
says_nothing line allows told c = rw (c.short, c.plain, c.silent) refl

-- what can be read of lines of these texts
all_tail : (a b : Bool) → (a && b) ≡ true → (a ≡ true) × (b ≡ true)
all_tail true b h = (refl, h)
all_tail false b h = off h

abbrev pub AllComments : List (List ℕ) → Type 0
AllComments [] = Unit {0}
AllComments (line ∷ lines) = IsComment line × AllComments lines

pub all_comments : (texts : List (List ℕ))
    → list_all (λ line. is_some (expectation line)) (map comment texts) ≡ true
    → AllComments (map comment texts)
all_comments [] h = tt
all_comments (text ∷ texts) h = let t =
    all_tail (is_some (expectation (comment text)))
    (list_all (λ line. is_some (expectation line)) (map comment texts)) h in
    (as_comment (comment text) t.0, all_comments texts t.1)

-- the front of lines, by whether the first is an expectation
pub expected_none : (line : List ℕ) (rest : List (List ℕ)) → expectation line ≡ None → expected_first (line ∷ rest) ≡ []
expected_none line rest e =
    ap (λ o. elim o as (λ _. List (List ℕ)) [ None ↦ [] | Some text ↦ text ∷ expected_first rest ]) e

expected_some : (line : List ℕ) (rest : List (List ℕ)) (text : List ℕ)
    → expectation line ≡ Some text
    → expected_first (line ∷ rest) ≡ text ∷ expected_first rest
expected_some line rest text e =
    ap (λ o. elim o as (λ _. List (List ℕ)) [ None ↦ [] | Some text ↦ text ∷ expected_first rest ]) e

pub first_expected : (texts lines : List (List ℕ))
    → AllComments (map comment texts)
    → expected_first (map comment texts ++ lines) ≡ texts ++ expected_first lines
first_expected [] lines c = refl
first_expected (text ∷ texts) lines c =
    expected_some (comment text) (map comment texts ++ lines) text c.0.value
    ∙ ap (λ ts. text ∷ ts) (first_expected texts lines c.1)

pub some_value : (line : List ℕ) → IsComment line → is_some (expectation line) ≡ true
some_value line c = rw c.value refl
