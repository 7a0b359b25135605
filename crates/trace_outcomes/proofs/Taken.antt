-- A trace that is read line by line asks for what its lines ask for.
use Rattle.std.proofs.Common.{◌≡◌, ℕ, ◌+◌, ◌<◌, ◌≤◌, ◌∙◌, refl, sym, ap, arith, true, false, List, [], length, get_or, drop, Ok, Err, nat_lt}
use Rattle.std.proofs.lemmas.Bool.{lt-ltb}
use Rattle.std.proofs.lemmas.List.{drop_more}
use Rattle.trace_text.specs.declared.fault.Fault.{Fault}
use Rattle.trace_text.specs.declared.fault.Fault.TheVariants as faults
use Rattle.trace_race.specs.Courses.{Asking, course_of, taken}

not-past : (n : ℕ) → n ≤ 1048576 → nat_lt 1048576 n ≡ false
not-past n few = grind (arith)

module _ (ls : List (List ℕ)) (place number : ℕ) (less : place < length ls) (few : number ≤ 1048576) where
  -- one line more
  pub one_line : (a b : Asking) (line : List ℕ)
      → line ≡ get_or ls place []
      → taken number line a ≡ Ok b
      → course_of number a (drop place ls) ≡ course_of (number + 1) b (drop (place + 1) ls)
  one_line a b line at e =
      let past : nat_lt 1048576 number ≡ false = not-past number few in
      let there : taken number (get_or ls place []) a ≡ Ok b = ap (λ x. taken number x a) (sym at) ∙ e in
      ap (course_of number a) (drop_more ls place [] less) ∙ rw (past, there) refl

  pub fault_line : (a : Asking) (fault : Fault) (line : List ℕ)
      → line ≡ get_or ls place []
      → taken number line a ≡ Err fault
      → course_of number a (drop place ls) ≡ Err (number, fault)
  fault_line a fault line at e =
      let past : nat_lt 1048576 number ≡ false = not-past number few in
      let there : taken number (get_or ls place []) a ≡ Err fault = ap (λ x. taken number x a) (sym at) ∙ e in
      ap (course_of number a) (drop_more ls place [] less) ∙ rw (past, there) refl

pub past_line : (ls : List (List ℕ)) (place number : ℕ) (a : Asking)
    → place < length ls
    → 1048576 < number
    → course_of number a (drop place ls) ≡ Err (number, faults.Lines)
past_line ls place number a less many = let past : nat_lt 1048576 number ≡ true = lt-ltb 1048576 number many in
    ap (course_of number a) (drop_more ls place [] less) ∙ rw past refl
