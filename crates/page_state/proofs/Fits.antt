-- Parts of what a word can say.
use Rattle.std.proofs.Common.{◌≡◌, ℕ, zero, suc, ◌+◌, ◌*◌, ◌%◌, ◌^◌, ◌<◌, ◌≤◌, refl, ap, subst, arith, ◌∙◌, true, ◌&&◌, ◌==◌, nat_le, nat_lt}
use Rattle.std.proofs.lemmas.Bool.Decides.{nat_tests}
use Rattle.page_state.specs.declared.entry.Entry.{Entry}
use Rattle.page_state.specs.declared.entry.Entry.TheVariants.{Unmapped, Malformed, Annotated, Leaf}
use Rattle.page_state.specs.Entries.{advance}
use Rattle.page_state.specs.Blocks.{fits_word}
use Rattle.page_state.specs.Geometries.{block_pages}
use Rattle.page_state.proofs.Blocks.{and-join}
use Rattle.page_state.proofs.Common.{and-both, eq-same, eq-made}
use Rattle.page_state.proofs.Entries.{advance-none}

-- what the test of a leaf says, and that it says it
leaf-says : (d f l s : ℕ) → nat_le d 2 && nat_lt f l && f % s == 0 ≡ true → (d ≤ 2) × (f < l) × (f % s ≡ 0)
leaf-says d f l s h =
    let a = and-both (nat_le d 2 && nat_lt f l) (f % s == 0) h in
    let b = and-both (nat_le d 2) (nat_lt f l) a.0 in
    let x : nat_le d 2 ≡ true = b.0 in
    let y : nat_lt f l ≡ true = b.1 in
    (grind (arith, nat_tests), grind (arith, nat_tests), eq-same (f % s) 0 a.1)

leaf-said : (d f l s : ℕ) → d ≤ 2 → f < l → f % s ≡ 0 → nat_le d 2 && nat_lt f l && f % s == 0 ≡ true
leaf-said d f l s x y z =
    let a : nat_le d 2 ≡ true = grind (arith, nat_tests) in
    let b : nat_lt f l ≡ true = grind (arith, nat_tests) in
    and-join (nat_le d 2 && nat_lt f l) (f % s == 0) (and-join (nat_le d 2) (nat_lt f l) a b) (eq-made (f % s) 0 z)

-- a part of what fits a word fits a word one level below
pub fits_part : (d i : ℕ) (x : Entry)
    → i < 512
    → fits_word (suc d) x ≡ true
    → fits_word d (advance x (i * block_pages d)) ≡ true
fits_part d i Unmapped p h = refl
fits_part d i Malformed p h = cc
fits_part d i (Annotated o) p h = h
fits_part zero i (Leaf f a k s) p h =
    let x = leaf-says 1 f.0 (2 ^ 36) 512 h in
    let y : f.0 < 2 ^ 36 = x.1 in
    let z : f.0 % 512 ≡ 0 = x.2 in
    leaf-said 0 (f.0 + i * 1) (2 ^ 36) 1 (omega arith) (omega arith) (omega arith)
fits_part (suc zero) i (Leaf f a k s) p h =
    let x = leaf-says 2 f.0 (2 ^ 36) 262144 h in
    let y : f.0 < 2 ^ 36 = x.1 in
    let z : f.0 % 262144 ≡ 0 = x.2 in
    leaf-said 1 (f.0 + i * 512) (2 ^ 36) 512 (omega arith) (omega arith) (omega arith)
fits_part (suc (suc d)) i (Leaf f a k s) p h =
    let x = leaf-says (suc (suc (suc d))) f.0 (2 ^ 36) (block_pages (suc (suc (suc d)))) h in
    let y = x.0 in
    absurd (omega arith)

-- and one at any level below
pub fits_below : (e d j : ℕ) (x : Entry)
    → j < block_pages e
    → fits_word (e + d) x ≡ true
    → fits_word d (advance x (j * block_pages d)) ≡ true
fits_below e d j Unmapped p h = refl
fits_below e d j Malformed p h = cc
fits_below e d j (Annotated o) p h = h
fits_below zero d j (Leaf f a k s) p h =
    let y : j < 1 = p in
    let w : j ≡ 0 = omega arith in
    let z : j * block_pages d ≡ 0 = rw w (omega arith) in
    let e : zero + d ≡ d = omega arith in
    let same : fits_word d (Leaf f a k s) ≡ true = subst (λ n. fits_word n (Leaf f a k s) ≡ true) e h in
    ap (λ n. fits_word d (advance (Leaf f a k s) n)) z ∙ ap (fits_word d) (advance-none (Leaf f a k s)) ∙ same
fits_below (suc zero) zero j (Leaf f a k s) p h = fits_part 0 j (Leaf f a k s) p h
fits_below (suc zero) (suc zero) j (Leaf f a k s) p h = fits_part 1 j (Leaf f a k s) p h
fits_below (suc zero) (suc (suc d)) j (Leaf f a k s) p h =
    let x = leaf-says (suc zero + suc (suc d)) f.0 (2 ^ 36) (block_pages (suc zero + suc (suc d))) h in
    let y = x.0 in
    absurd (omega arith)
fits_below (suc (suc zero)) zero j (Leaf f a k s) p h =
    let x = leaf-says 2 f.0 (2 ^ 36) 262144 h in
    let y : f.0 < 2 ^ 36 = x.1 in
    let z : f.0 % 262144 ≡ 0 = x.2 in
    let w : j < 262144 = p in
    leaf-said 0 (f.0 + j * 1) (2 ^ 36) 1 (omega arith) (omega arith) (omega arith)
fits_below (suc (suc zero)) (suc d) j (Leaf f a k s) p h =
    let x = leaf-says (suc (suc zero) + suc d) f.0 (2 ^ 36) (block_pages (suc (suc zero) + suc d)) h in
    let y = x.0 in
    absurd (omega arith)
fits_below (suc (suc (suc e))) d j (Leaf f a k s) p h =
    let x = leaf-says (suc (suc (suc e)) + d) f.0 (2 ^ 36) (block_pages (suc (suc (suc e)) + d)) h in
    let y = x.0 in
    absurd (omega arith)
