-- The words of a line that is written, and what numbers are as words.
use Rattle.std.proofs.Common.{◌≡◌, ℕ, suc, ◌^◌, ◌<◌, ◌≤◌, ◌==◌, nat_lt, nat_le, Bool, true, false, ◌&&◌, ◌||◌, List, [], ◌∷◌, ◌++◌, length, refl, arith, sym, ap, ◌∙◌, subst, Some, All}
use Rattle.std.specs.Prelude.{codes}
use Rattle.std.specs.Fmt.{digits, decimal, digit_glyph}
use Rattle.std.specs.List.{list_all}
use Rattle.std.proofs.lemmas.Bool.Decides.{nat_tests}
use Rattle.std.proofs.lemmas.List.{append-nil, append_assoc, length-append}
use Rattle.std.proofs.lemmas.List.Elements.{All-cons}
use Rattle.std.proofs.lemmas.List.Folds.{list_all-append}
use Rattle.std.proofs.lemmas.List.Splits.{slice_split_none, slice_split_at}
use Rattle.page_state.proofs.Cases.{by_lt}
use Rattle.page_state.specs.Texts.{text_of_page, text_of_prot}
use Rattle.call_table.specs.declared.step.VmId.{VmId}
use Rattle.call_table.specs.Texts.{text_of_vm}
use Rattle.call_table.specs.Words.{rights_named, text_of_vm_kind, vm_kind_named}
use Rattle.call_table.proofs.CallsNamed.{words_read}
use Rattle.call_table.specs.declared.step.VmKind.{VmKind}
use Rattle.call_table.specs.declared.step.VmKind.TheVariants.{Protected, Plain}
use Rattle.descriptor.specs.declared.Prot.{Prot}
use Rattle.descriptor.specs.declared.Prot.TheVariants.{R, RW, RX, RWX}
use Rattle.trace_lines.specs.Arguments.{dotted, vm_of}
use Rattle.trace_lines.specs.Asked.{begins_with_digit}
use Rattle.trace_words.specs.Numbers.{is_decimal, is_decimal_digit, is_hexadecimal, is_hexadecimal_digit, in_64_bits, decimal_of, number_of}
use Rattle.trace_generate.proofs.Spelled.{IsSpelled, digits_of_all}
use Rattle.trace_generate.specs.Reading.{Fits, FitsVm}

-- a byte of a word: printable, and no space
abbrev pub is_plain : ℕ → Bool
is_plain b = nat_lt 32 b && nat_lt b 127

-- a word of a line
pub record IsWord (w : List ℕ) : Type 0 where
  pub some : 0 < length w
  pub short : length w ≤ 41
  pub plain : list_all is_plain w ≡ true

pub and_left : (a b : Bool) → (a && b) ≡ true → a ≡ true
and_left true b e = refl
and_left false b e = e

pub and_right : (a b : Bool) → (a && b) ≡ true → b ≡ true
and_right true b e = e
and_right false b e = absurd (cc)

weaker : (p q : ℕ → Bool)
    → ((b : ℕ) → p b ≡ true → q b ≡ true)
    → (xs : List ℕ)
    → list_all p xs ≡ true
    → list_all q xs ≡ true
weaker p q h [] e = refl
weaker p q h (x ∷ xs) e =
    rw (h x (and_left (p x) (list_all p xs) e), weaker p q h xs (and_right (p x) (list_all p xs) e)) refl

plain_decimal : (b : ℕ) → is_decimal_digit b ≡ true → is_plain b ≡ true
plain_decimal b e = grind (arith, nat_tests)

plain_hexadecimal : (b : ℕ) → is_hexadecimal_digit b ≡ true → is_plain b ≡ true
plain_hexadecimal b e = grind (arith, nat_tests)

decimal_glyph : (d : ℕ) → d < 10 → is_decimal_digit (digit_glyph false d) ≡ true
decimal_glyph d h = grind (arith, nat_tests)

hexadecimal_glyph : (d : ℕ) → d < 16 → is_hexadecimal_digit (digit_glyph false d) ≡ true
hexadecimal_glyph d h = by_lt d 10 (λ less. grind (arith, nat_tests)) (λ more. grind (arith, nat_tests))

below_tens : (n : ℕ) → n < 2 ^ 64 → n < 10 ^ suc 19
below_tens n h = omega (arith, h)

below_sixteens : (n : ℕ) → n < 2 ^ 64 → n < 16 ^ suc 15
below_sixteens n h = omega (arith, h)

-- the digits that are written of a number of 64 bits, in decimal and in hexadecimal
decimal_spelled : (n : ℕ) → n < 2 ^ 64 → IsSpelled 10 is_decimal_digit n 20 (decimal n)
unfolding digits
decimal_spelled n h =
    let d =
    digits_of_all 10 (omega arith) (omega arith) is_decimal_digit decimal_glyph 19 63 n [] (omega arith)
    (below_tens n h) in
    subst (IsSpelled 10 is_decimal_digit n 20) (sym (d.whole ∙ append-nil d.spelled_by)) d.spelled

hexadecimal_spelled : (n : ℕ) → n < 2 ^ 64 → IsSpelled 16 is_hexadecimal_digit n 16 (digits 16 false n)
unfolding digits
hexadecimal_spelled n h =
    let d =
    digits_of_all 16 (omega arith) (omega arith) is_hexadecimal_digit hexadecimal_glyph 15 63 n [] (omega arith)
    (below_sixteens n h) in
    subst (IsSpelled 16 is_hexadecimal_digit n 16) (sym (d.whole ∙ append-nil d.spelled_by)) d.spelled

fits : (n : ℕ) → n < 2 ^ 64 → in_64_bits n ≡ Some n
fits n h = grind (arith, nat_tests)

or_true : (b : Bool) → (b || true) ≡ true
or_true true = refl
or_true false = refl

decimal_test : (n k : ℕ) (ds : List ℕ) → IsSpelled 10 is_decimal_digit n k ds → is_decimal ds ≡ true
decimal_test n k [] s = absurd (omega (arith, s.some))
decimal_test n k (d ∷ ds) s = by_lt 0 n
    (λ more. let first : 48 < d = s.first more in
    let high : nat_lt 48 d ≡ true = grind (arith, nat_tests) in
    rw (s.tests, high) refl)
    (λ none. let one : length ds ≡ 0 = omega (arith, s.alone (omega (arith, none))) in
    let alone : (length ds == 0) ≡ true = rw one refl in
    rw (s.tests, alone) (ap (λ b. b && true) (or_true (nat_lt 48 d))))

-- a decimal number is read as itself, and a page
decimal_is : (n : ℕ) → Fits n → decimal_of (decimal n) ≡ Some n
decimal_is n h =
    let s = decimal_spelled n h in
    rw (decimal_test n 20 (decimal n) s, s.value) (fits n h)

pub number_of-decimal : (n : ℕ) → Fits n → number_of (decimal n) ≡ Some n
unfolding number_of
number_of-decimal n h =
    let s = decimal_spelled n h in
    rw (decimal_test n 20 (decimal n) s, s.value) (fits n h)

not_decimal : (ds : List ℕ) → is_decimal (48 ∷ 120 ∷ ds) ≡ false
not_decimal ds = grind (arith, nat_tests)

is_hexadecimal_by : (ds : List ℕ)
    → 0 < length ds
    → length ds ≤ 16
    → list_all is_hexadecimal_digit ds ≡ true
    → is_hexadecimal (48 ∷ 120 ∷ ds) ≡ true
is_hexadecimal_by ds some short all =
    let low : nat_le 3 (length (48 ∷ 120 ∷ ds)) ≡ true = grind (arith, nat_tests) in
    let high : nat_le (length (48 ∷ 120 ∷ ds)) 18 ≡ true = grind (arith, nat_tests) in
    rw (low, high, all) refl

pub number_of-page : (n : ℕ) → Fits n → number_of (text_of_page n) ≡ Some n
unfolding number_of
number_of-page n h =
    let s = hexadecimal_spelled n h in
    rw (not_decimal (digits 16 false n), is_hexadecimal_by (digits 16 false n) s.some s.short s.tests, s.value)
    (fits n h)

-- what is written are words
pub word_of-decimal : (n : ℕ) → Fits n → IsWord (decimal n)
word_of-decimal n h =
    let s = decimal_spelled n h in
    record {
      some = s.some;
      short = omega (arith, s.short);
      plain = weaker is_decimal_digit is_plain plain_decimal (decimal n) s.tests;
    }

pub word_of-page : (n : ℕ) → Fits n → IsWord (text_of_page n)
word_of-page n h =
    let s = hexadecimal_spelled n h in
    record {
      some = omega arith;
      short = omega (arith, s.short);
      plain = rw (weaker is_hexadecimal_digit is_plain plain_hexadecimal (digits 16 false n) s.tests) refl;
    }

-- a decimal number begins with a digit
begins : (n k : ℕ) (ds : List ℕ) → IsSpelled 10 is_decimal_digit n k ds → begins_with_digit ds ≡ true
begins n k [] s = absurd (omega (arith, s.some))
begins n k (d ∷ ds) s = and_left (is_decimal_digit d) (list_all is_decimal_digit ds) s.tests

pub begins-decimal : (n : ℕ) → Fits n → begins_with_digit (decimal n) ≡ true
begins-decimal n h = begins n 20 (decimal n) (decimal_spelled n h)

-- a VM is its slot and its generation with a dot between them
no_dot : (b : ℕ) → is_decimal_digit b ≡ true → (b == 0x2e) ≡ false
no_dot b e = grind (arith, nat_tests)

all_no : (p q : ℕ → Bool)
    → ((b : ℕ) → p b ≡ true → q b ≡ false)
    → (xs : List ℕ)
    → list_all p xs ≡ true
    → All (λ b. q b ≡ false) xs
all_no p q h [] e = λ k d l. absurd (omega (arith, l))
all_no p q h (x ∷ xs) e =
    All-cons (λ b. q b ≡ false) x xs (h x (and_left (p x) (list_all p xs) e))
    (all_no p q h xs (and_right (p x) (list_all p xs) e))

vm_parts : (vm : VmId) → FitsVm vm → dotted (text_of_vm vm) ≡ decimal vm.slot ∷ decimal vm.generation ∷ []
vm_parts vm h =
    let slot = decimal_spelled vm.slot h.0 in
    let generation = decimal_spelled vm.generation h.1 in
    let no_dots = all_no is_decimal_digit (λ byte. byte == 0x2e) no_dot in
    ap dotted (append_assoc (decimal vm.slot) (codes ".") (decimal vm.generation))
    ∙ slice_split_at (λ byte. byte == 0x2e) (decimal vm.slot) 46 (decimal vm.generation)
    (no_dots (decimal vm.slot) slot.tests) refl
    ∙ ap (λ rest. decimal vm.slot ∷ rest)
    (slice_split_none (λ byte. byte == 0x2e) (decimal vm.generation)
    (no_dots (decimal vm.generation) generation.tests))

pub vm_of-vm : (vm : VmId) → FitsVm vm → vm_of (text_of_vm vm) ≡ Some vm
unfolding vm_of
vm_of-vm vm h = rw (vm_parts vm h, decimal_is vm.slot h.0, decimal_is vm.generation h.1) refl

pub word_of-vm : (vm : VmId) → FitsVm vm → IsWord (text_of_vm vm)
word_of-vm vm h =
    let slot = word_of-decimal vm.slot h.0 in
    let generation = word_of-decimal vm.generation h.1 in
    let s = decimal_spelled vm.slot h.0 in
    let g = decimal_spelled vm.generation h.1 in
    let first = length-append (decimal vm.slot) (codes ".") in
    let all = length-append (decimal vm.slot ++ codes ".") (decimal vm.generation) in
    record {
      some = omega (arith, first, all, s.some);
      short = omega (arith, first, all, s.short, g.short);
      plain =
          list_all-append is_plain (decimal vm.slot ++ codes ".") (decimal vm.generation)
          ∙ rw (list_all-append is_plain (decimal vm.slot) (codes "."), slot.plain, generation.plain) refl;
    }

-- kinds and rights
pub word_of-kind : (kind : VmKind) → IsWord (text_of_vm_kind kind)
word_of-kind Protected = record { some = omega arith; short = omega arith; plain = refl }
word_of-kind Plain = record { some = omega arith; short = omega arith; plain = refl }

pub named-kind : (kind : VmKind) → vm_kind_named (text_of_vm_kind kind) ≡ Some kind
named-kind = words_read.0

pub word_of-rights : (prot : Prot) → IsWord (text_of_prot prot)
word_of-rights R = record { some = omega arith; short = omega arith; plain = refl }
word_of-rights RW = record { some = omega arith; short = omega arith; plain = refl }
word_of-rights RX = record { some = omega arith; short = omega arith; plain = refl }
word_of-rights RWX = record { some = omega arith; short = omega arith; plain = refl }

pub named-rights : (prot : Prot) → rights_named (text_of_prot prot) ≡ Some prot
named-rights = words_read.1
