-- The numbers of a check.
use Rattle.std.proofs.Common.{◌≡◌, ◌∙◌, ℕ, ◌<◌, Bool, true, false, not, ◌&&◌, ◌==◌, List, ◌++◌, length, refl, sym, ap, subst, arith}
use Rattle.std.specs.Prelude.{◌↔◌}
use Rattle.std.proofs.lemmas.Bool.Decides.{nat_tests}
use Rattle.trace_reader.specs.Reading.{lines_of}
use Rattle.trace_text.specs.declared.report.ReportLine.{ReportLine}
use Rattle.trace_check.specs.Checks.{boot_text, count_wrong, has_begun, miss_lines, mistaken_lines, none_text, spot_text, sum_text}
use Rattle.trace_check.specs.Expectations.{count_expected}
use Rattle.trace_check.specs.Laws.{CheckCounts, IsClean}
use Rattle.trace_check.specs.Misses.{misses}

both : (p q : Bool) → (p && q) ≡ true → (p ≡ true) × (q ≡ true)
both true true h = (refl, refl)
both true false h = absurd (let k = h in cc)
both false q h = absurd (let k = h in cc)

joined : (p q : Bool) → p ≡ true → q ≡ true → (p && q) ≡ true
joined true q a b = b
joined false q a b = absurd (let k = a in cc)

zero_told : (n : ℕ) → (n == 0) ≡ true → n ≡ 0
zero_told n h = grind (arith, nat_tests)

told_zero : (n : ℕ) → n ≡ 0 → (n == 0) ≡ true
told_zero n h = grind (arith, nat_tests)

some_told : (n : ℕ) → not (n == 0) ≡ true → 0 < n
some_told n h = grind (arith, nat_tests)

told_some : (n : ℕ) → 0 < n → not (n == 0) ≡ true
told_some n h = grind (arith, nat_tests)

clean_by : (told : List (List ReportLine)) (expected wrong : ℕ)
    → ((has_begun told && not (expected == 0) && wrong == 0) ≡ true) ↔ IsClean told expected wrong
clean_by told expected wrong = (
  λ h.
      let parts = both (has_begun told && not (expected == 0)) (wrong == 0) h in
      let front = both (has_begun told) (not (expected == 0)) parts.0 in
      record { begun = front.0; some = some_told expected front.1; none = zero_told wrong parts.1 },
  λ c. joined (has_begun told && not (expected == 0)) (wrong == 0)
      (joined (has_begun told) (not (expected == 0)) c.begun (told_some expected c.some)) (told_zero wrong c.none),
)

pub check_counts : CheckCounts
check_counts name trace checked h =
    let lines = lines_of trace in
    let missed = misses lines h.told in
    let wrong = count_wrong lines h.told in
    let front =
    miss_lines name missed ++ mistaken_lines name 1 lines ++ spot_text name lines h.told (length missed)
    ++ boot_text name (has_begun h.told) ++ none_text name (count_expected lines) in
    let clean = clean_by h.told (count_expected lines) wrong in
    let numbers : (n : ℕ) → n ≡ count_expected lines → (m : ℕ) → m ≡ wrong → (checked.clean ≡ true) ↔ IsClean h.told n m =
    λ n en m em. subst (λ x. (checked.clean ≡ true) ↔ IsClean h.told n x) (sym em)
    (subst (λ x. (checked.clean ≡ true) ↔ IsClean h.told x wrong) (sym en)
    (subst (λ b. (b ≡ true) ↔ IsClean h.told (count_expected lines) wrong) (sym h.checks.clean) clean)) in
    record {
      told = h.told;
      runs = h.runs;
      expected = h.checks.expected;
      wrong = h.checks.wrong;
      front = front;
      last =
          h.checks.text ∙ ap (λ n. front ++ sum_text name n wrong) (sym h.checks.expected)
          ∙ ap (λ n. front ++ sum_text name checked.expected n) (sym h.checks.wrong);
      clean = numbers checked.expected h.checks.expected checked.wrong h.checks.wrong;
    }
