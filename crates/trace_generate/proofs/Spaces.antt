-- Words with one space between them, as a line that is read.
use Rattle.std.proofs.Common.{◌≡◌, ℕ, ◌+◌, ◌*◌, ◌<◌, ◌≤◌, ◌==◌, nat_lt, Bool, true, false, List, [], ◌∷◌, ◌++◌, length, refl, arith, ap, ◌∙◌, All, Some, Ok}
use Rattle.std.specs.List.{list_all, list_any}
use Rattle.std.proofs.lemmas.Bool.Decides.{nat_tests}
use Rattle.std.proofs.lemmas.List.{length-append}
use Rattle.std.proofs.lemmas.List.Elements.{All-cons}
use Rattle.std.proofs.lemmas.List.Folds.{list_any-append}
use Rattle.std.proofs.lemmas.List.Splits.{slice_split_none, slice_split_at}
use Rattle.trace_lines.specs.Asked.{asked, begins_with_digit}
use Rattle.trace_lines.specs.declared.line.Line.TheVariants as lines
use Rattle.trace_lines.specs.declared.place.Allows.{Allows}
use Rattle.trace_lines.specs.declared.place.Verb.TheVariants as verbs
use Rattle.trace_lines.specs.Places.{of_replay}
use Rattle.trace_lines.specs.Said.{said, said_by_asked, said_by_words}
use Rattle.trace_lines.specs.Settings.{Told}
use Rattle.trace_words.specs.Numbers.{is_decimal_digit}
use Rattle.trace_words.specs.Words.{has_empty_word, has_stray_byte, is_silent, is_stray, words_of}
use Rattle.call_table.specs.declared.step.Step.{Step}
use Rattle.trace_generate.proofs.Words.{IsWord, and_left, and_right, is_plain}

-- a word and those behind it
abbrev pub spaced : List ℕ → List (List ℕ) → List ℕ
spaced w [] = w
spaced w (v ∷ vs) = w ++ (32 ∷ spaced v vs)

abbrev pub AreWords : List (List ℕ) → Type 0
AreWords [] = Unit {0}
AreWords (w ∷ ws) = IsWord w × AreWords ws

no_space : (b : ℕ) → is_plain b ≡ true → (b == 0x20) ≡ false
no_space b e = grind (arith, nat_tests)

no_stray : (b : ℕ) → is_plain b ≡ true → is_stray b ≡ false
no_stray b e = grind (arith, nat_tests)

all_no : (p q : ℕ → Bool)
    → ((b : ℕ) → p b ≡ true → q b ≡ false)
    → (xs : List ℕ)
    → list_all p xs ≡ true
    → All (λ b. q b ≡ false) xs
all_no p q h [] e = λ k d l. absurd (omega (arith, l))
all_no p q h (x ∷ xs) e =
    All-cons (λ b. q b ≡ false) x xs (h x (and_left (p x) (list_all p xs) e))
    (all_no p q h xs (and_right (p x) (list_all p xs) e))

any_no : (p q : ℕ → Bool)
    → ((b : ℕ) → p b ≡ true → q b ≡ false)
    → (xs : List ℕ)
    → list_all p xs ≡ true
    → list_any q xs ≡ false
any_no p q h [] e = refl
any_no p q h (x ∷ xs) e =
    rw (h x (and_left (p x) (list_all p xs) e), any_no p q h xs (and_right (p x) (list_all p xs) e)) refl

-- cut at its spaces it is these words
words-spaced : (w : List ℕ) (ws : List (List ℕ)) → IsWord w → AreWords ws → words_of (spaced w ws) ≡ w ∷ ws
words-spaced w [] h hs =
    slice_split_none (λ byte. byte == 0x20) w (all_no is_plain (λ byte. byte == 0x20) no_space w h.plain)
words-spaced w (v ∷ vs) h hs =
    slice_split_at (λ byte. byte == 0x20) w 32 (spaced v vs)
    (all_no is_plain (λ byte. byte == 0x20) no_space w h.plain) refl
    ∙ ap (λ rest. w ∷ rest) (words-spaced v vs hs.0 hs.1)

no_stray_byte : (w : List ℕ) (ws : List (List ℕ)) → IsWord w → AreWords ws → has_stray_byte (spaced w ws) ≡ false
no_stray_byte w [] h hs = any_no is_plain is_stray no_stray w h.plain
no_stray_byte w (v ∷ vs) h hs =
    list_any-append is_stray w (32 ∷ spaced v vs)
    ∙ rw (any_no is_plain is_stray no_stray w h.plain, no_stray_byte v vs hs.0 hs.1) refl

no_empty : (ws : List (List ℕ)) → AreWords ws → has_empty_word ws ≡ false
no_empty [] hs = refl
no_empty (w ∷ ws) hs =
    let some : (length w == 0) ≡ false = not_zero (length w) hs.0.some in
    rw (some, no_empty ws hs.1) refl
  where
    not_zero : (n : ℕ) → 0 < n → (n == 0) ≡ false
    not_zero n h = grind (arith, nat_tests)

short : (w : List ℕ) (ws : List (List ℕ)) → IsWord w → AreWords ws → length (spaced w ws) ≤ 42 * (length ws + 1)
short w [] h hs = omega (arith, h.short)
short w (v ∷ vs) h hs = omega (arith, h.short, length-append w (32 ∷ spaced v vs), short v vs hs.0 hs.1)

not_silent : (b : ℕ) → is_decimal_digit b ≡ true → (b == 0x23) ≡ false
not_silent b e = grind (arith, nat_tests)

no_silence : (w : List ℕ) (ws : List (List ℕ)) → begins_with_digit w ≡ true → is_silent (spaced w ws) ≡ false
no_silence [] ws e = absurd (cc)
no_silence (b ∷ bs) [] e = not_silent b e
no_silence (b ∷ bs) (v ∷ vs) e = not_silent b e

-- a line of at most six words, which isn't silent, says what its words say
pub said-words : (allows : Allows) (told : Told) (w : List ℕ) (ws : List (List ℕ))
    → is_silent (spaced w ws) ≡ false
    → IsWord w
    → AreWords ws
    → length ws ≤ 5
    → said allows told (spaced w ws) ≡ said_by_words allows told (w ∷ ws)
unfolding said
said-words allows told w ws e h hs few =
    let long : nat_lt 256 (length (spaced w ws)) ≡ false =
    below (length (spaced w ws)) (omega (arith, short w ws h hs, few)) in
    rw (long, no_stray_byte w ws h hs, e, words-spaced w ws h hs, no_empty (w ∷ ws) (h, hs)) refl
  where
    below : (n : ℕ) → n ≤ 256 → nat_lt 256 n ≡ false
    below n h = grind (arith, nat_tests)

-- so does one whose first word begins with a digit
pub said-spaced : (allows : Allows) (told : Told) (w : List ℕ) (ws : List (List ℕ))
    → begins_with_digit w ≡ true
    → IsWord w
    → AreWords ws
    → length ws ≤ 5
    → said allows told (spaced w ws) ≡ said_by_words allows told (w ∷ ws)
said-spaced allows told w ws e = said-words allows told w ws (no_silence w ws e)

pub length-spaced : (w : List ℕ) (ws : List (List ℕ))
    → IsWord w
    → AreWords ws
    → length ws ≤ 5
    → length (spaced w ws) ≤ 256
length-spaced w ws h hs few = omega (arith, short w ws h hs, few)

-- words that ask for a step, as many as it has
pub said-step : (started : Bool) (told : Told) (words : List (List ℕ)) (cpu : ℕ) (step : Step)
    → asked words ≡ Some (record { verb = verbs.Step; words = length words; line = Some (lines.Step cpu step) })
    → said_by_words (of_replay started) told words ≡ Ok (Some (lines.Step cpu step))
said-step started told words cpu step e = ap (said_by_asked (of_replay started) told (length words)) e ∙ same
  where
    equal : (n : ℕ) → (n == n) ≡ true
    equal n = grind (arith, nat_tests)

    same : said_by_asked (of_replay started) told (length words)
        (Some (record { verb = verbs.Step; words = length words; line = Some (lines.Step cpu step) }))
        ≡ Ok (Some (lines.Step cpu step))
    same = rw (equal (length words)) refl
