-- The line of a step in a report is read as what it tells.
use Rattle.std.proofs.Common.{◌≡◌, ℕ, ◌^◌, ◌<◌, ◌==◌, ◌&&◌, arith, Bool, true, false, List, [], ◌∷◌, ◌++◌, All, length, refl, ap, ◌∙◌, Some}
use Rattle.std.specs.Fmt.{decimal}
use Rattle.std.specs.List.{list_all}
use Rattle.std.proofs.lemmas.Bool.Decides.{nat_tests}
use Rattle.std.proofs.lemmas.Fmt.{decimal_nonempty}
use Rattle.std.proofs.lemmas.List.{append_assoc}
use Rattle.std.proofs.lemmas.List.Elements.{All-cons}
use Rattle.std.proofs.lemmas.List.Splits.{slice_split_at}
use Rattle.call_table.specs.Texts.{text_of_reply}
use Rattle.trace_lines.specs.declared.response.Response.TheVariants as responses
use Rattle.trace_lines.specs.Texts.{text_of_response}
use Rattle.trace_words.specs.Numbers.{is_decimal_digit}
use Rattle.trace_words.specs.Words.{words_of}
use Rattle.trace_outcomes.specs.Laws.{LinesAreRead}
use Rattle.trace_outcomes.specs.Reports.{behind_space, first_word, is_passed, step_of_line, told_with}
use Rattle.trace_outcomes.proofs.Decimals.{decimal_is, spelled}
use Rattle.trace_outcomes.proofs.Replies.{replies_are_read}

and_left : (a b : Bool) → (a && b) ≡ true → a ≡ true
and_left true b e = refl
and_left false b e = e

and_right : (a b : Bool) → (a && b) ≡ true → b ≡ true
and_right true b e = e
and_right false b e = absurd (cc)

no_space : (b : ℕ) → is_decimal_digit b ≡ true → (b == 0x20) ≡ false
no_space b e = grind (arith, nat_tests)

all_no : (xs : List ℕ) → list_all is_decimal_digit xs ≡ true → All (λ b. (b == 0x20) ≡ false) xs
all_no [] e = λ k d l. absurd (omega (arith, l))
all_no (x ∷ xs) e =
    All-cons (λ (b : ℕ). (b == 0x20) ≡ false) x xs
    (no_space x (and_left (is_decimal_digit x) (list_all is_decimal_digit xs) e))
    (all_no xs (and_right (is_decimal_digit x) (list_all is_decimal_digit xs) e))

behind_word : (w rest : List ℕ) → list_all is_decimal_digit w ≡ true → behind_space (w ++ (32 ∷ rest)) ≡ rest
behind_word [] rest e = refl
behind_word (x ∷ w) rest e =
    rw (no_space x (and_left (is_decimal_digit x) (list_all is_decimal_digit w) e))
    (behind_word w rest (and_right (is_decimal_digit x) (list_all is_decimal_digit w) e))

not_passed : (word line : List ℕ)
    → first_word line ≡ word
    → 0 < length word
    → list_all is_decimal_digit word ≡ true
    → is_passed line ≡ false
not_passed [] line is some e = absurd (omega (arith, some))
not_passed (d ∷ ds) line is some e =
    let digit = and_left (is_decimal_digit d) (list_all is_decimal_digit ds) e in
    let b : (d == 98) ≡ false = grind (arith, nat_tests) in
    let w : (d == 119) ≡ false = grind (arith, nat_tests) in
    let f : (d == 102) ≡ false = grind (arith, nat_tests) in
    let o : (d == 111) ≡ false = grind (arith, nat_tests) in
    let en : (d == 101) ≡ false = grind (arith, nat_tests) in
    rw is (rw (b, w, f, o, en) refl)

-- a line's number, its CPU, and what is behind them
abbrev pub whole : ℕ → ℕ → List ℕ → List ℕ
whole line cpu rest = decimal line ++ (32 ∷ (decimal cpu ++ (32 ∷ rest)))

module _ (line cpu : ℕ) (rest : List ℕ) (h : line < 2 ^ 64) (k : cpu < 2 ^ 64) where
  words : words_of (whole line cpu rest) ≡ decimal line ∷ decimal cpu ∷ words_of rest
  words =
      slice_split_at (λ byte. byte == 0x20) (decimal line) 32 (decimal cpu ++ (32 ∷ rest))
      (all_no (decimal line) (spelled line h).tests) refl
      ∙ ap (λ ws. decimal line ∷ ws)
      (slice_split_at (λ byte. byte == 0x20) (decimal cpu) 32 rest
      (all_no (decimal cpu) (spelled cpu k).tests) refl)

  said : step_of_line (whole line cpu rest) ≡ Some (line, cpu)
  said = rw words (rw (decimal_is line h, decimal_is cpu k) refl)

  behind : behind_space (behind_space (whole line cpu rest)) ≡ rest
  behind =
      ap behind_space (behind_word (decimal line) (decimal cpu ++ (32 ∷ rest)) (spelled line h).tests)
      ∙ behind_word (decimal cpu) rest (spelled cpu k).tests

  passed : is_passed (whole line cpu rest) ≡ false
  passed =
      not_passed (decimal line) (whole line cpu rest) (rw words refl) (decimal_nonempty line h) (spelled line h).tests

pub lines_are_read : LinesAreRead
lines_are_read steps texts line cpu place reply h k at none =
    let text = text_of_reply reply in
    let is : text_of_response (responses.Step line cpu reply) ≡ whole line cpu text =
    together (decimal line) (decimal cpu) text in
    let read = (replies_are_read reply).0 in
    ap (told_with steps texts) is
    ∙ rw (passed line cpu text h k)
    (rw (said line cpu text h k) (rw (behind line cpu text h k) (rw at (rw read (rw none refl)))))
  where
    together : (a b c : List ℕ) → (((a ++ (32 ∷ [])) ++ b) ++ (32 ∷ [])) ++ c ≡ a ++ (32 ∷ (b ++ (32 ∷ c)))
    together a b c =
        append_assoc ((a ++ (32 ∷ [])) ++ b) (32 ∷ []) c ∙ append_assoc (a ++ (32 ∷ [])) b (32 ∷ c)
        ∙ append_assoc a (32 ∷ []) (b ++ (32 ∷ c))
