-- What is said of a slot of the VM table.
use Rattle.std.proofs.Common.{◌≡◌, ℕ, ◌<◌, refl, subst, List, Bool, true, false, nat_lt, IfOk, Result, if◌then◌else◌, arith}
use Rattle.std.proofs.lemmas.Bool.Decides.{nat_tests}

if_true : (b : Bool) (x y : List ℕ) → b ≡ true → x ≡ if b then x else y
if_true true x y e = refl
if_true false x y e = absurd (let h = e in cc)

pub in_table : {X E : Type 0} (r : Result X E) (text : X → List ℕ) (slot : ℕ) (there other : List ℕ)
    → slot < 64
    → IfOk r (λ x. text x ≡ there)
    → IfOk r (λ x. text x ≡ if nat_lt slot 64 then there else other)
in_table r text slot there other l told =
    let e : nat_lt slot 64 ≡ true = grind (arith, nat_tests) in
    subst (λ t. IfOk r (λ x. text x ≡ t)) (if_true (nat_lt slot 64) there other e) told
