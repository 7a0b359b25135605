-- A block is one word just where its parts are one word that goes on.
use Rattle.std.proofs.Common.{◌≡◌, ℕ, zero, suc, ◌+◌, ◌-◌, ◌*◌, ◌/◌, ◌%◌, ◌^◌, ◌<◌, ◌≤◌, refl, sym, ap, subst, arith, ◌∙◌, mul-le-mul_right, true, false, ◌&&◌, ◌==◌, nat_le, nat_lt}
use Rattle.std.proofs.Math.Nat.{div-mul-le_self, lt-div-mul-add}
use Rattle.std.proofs.lemmas.Bool.Decides.{nat_tests}
use Rattle.page_state.specs.declared.entry.Entry.{Entry}
use Rattle.page_state.specs.declared.entry.Entry.TheVariants.{Unmapped, Malformed, Annotated, Leaf}
use Rattle.page_state.specs.Entries.{advance}
use Rattle.page_state.specs.Map.{Map}
use Rattle.page_state.specs.Blocks.{span, first_page, fits_word, is_one_word}
use Rattle.page_state.specs.Geometries.{block_pages}
use Rattle.page_state.specs.Trees.{Block}
use Rattle.page_state.proofs.Blocks.{one_word_means, and-join}
use Rattle.page_state.proofs.Cases.{by_lt}
use Rattle.page_state.proofs.Common.{and-both, eq-same, eq-made, same-tests}
use Rattle.page_state.proofs.Entries.{advance-none, advance-more}
use Rattle.page_state.proofs.Fits.{fits_part}
use Rattle.page_state.proofs.Sizes.{size_step, size_some}
use Rattle.coarse_trees.specs.Laws.{PartsAreOneWord, OneWordOfParts}

-- what the test of a block says, by the numbers of its depth and index
abbrev Along : Map → ℕ → ℕ → ℕ → Type 0
Along n s d b = (fits_word d (n (b * s)) ≡ true) × ((i : ℕ) → i < s → n (b * s + i) ≡ advance (n (b * s)) i)

one-word-says : (n : Map) (d b : ℕ) → is_one_word n (d, b) ≡ true → Along n (block_pages d) d b
one-word-says n d b h = (one_word_means n (d, b)).0 h

pub one-word-made : (n : Map) (d b : ℕ) (y : Entry)
    → fits_word d y ≡ true
    → ((i : ℕ) → i < block_pages d → n (b * block_pages d + i) ≡ advance y i)
    → is_one_word n (d, b) ≡ true
one-word-made n d b y f h =
    let z : b * block_pages d + 0 ≡ b * block_pages d = omega arith in
    let e : n (b * block_pages d) ≡ y = ap n (sym z) ∙ h 0 (size_some d) ∙ advance-none y in
    let along : Along n (block_pages d) d b = (ap (fits_word d) e ∙ f, λ i p. h i p ∙ ap (λ x. advance x i) (sym e)) in
    (one_word_means n (d, b)).1 along

places : (s z b i j : ℕ)
    → z ≡ 512 * s
    → i < 512
    → j < s
    → ((512 * b + i) * s + j ≡ b * z + (i * s + j)) × (i * s + j < z)
places s z b i j e p q =
    let k : i + 1 ≤ 512 = omega arith in
    let y = mul-le-mul_right s k in
    (rw e (omega arith), rw e (omega (arith, y)))

pub parts_are_one_word : PartsAreOneWord
parts_are_one_word n d b i q h =
    let y = n (b * block_pages (suc d)) in
    let x = one-word-says n (suc d) b h in
    one-word-made n d (512 * b + i) (advance y (i * block_pages d)) (fits_part d i y q x.0)
    (λ j r.
    let at = places (block_pages d) (block_pages (suc d)) b i j (size_step d) q r in
    ap n at.0 ∙ x.1 (i * block_pages d + j) at.1 ∙ sym (advance-more y (i * block_pages d) j))

-- the part that a page of a block lies in
cut : (s z b j : ℕ)
    → 1 ≤ s
    → z ≡ 512 * s
    → j < z
    → (j / s < 512) × (j % s < s) × ((512 * b + j / s) * s + j % s ≡ b * z + j) × (j / s * s + j % s ≡ j)
cut s z b j p e l =
    let l' : j < 512 * s = rw e at l in
    let x = div-mul-le_self j s in
    let y = lt-div-mul-add {a = j} {b = s} p in
    let m : j % s ≡ j - j / s * s = omega (arith, p) in
    let less : j / s < 512 = small (j / s) s (omega arith) in
    (less, omega arith, rw e (omega arith), omega arith)
  where
    small : (a t : ℕ) → a * t < 512 * t → a < 512
    small a t h = by_lt a 512 (λ k. k) (λ k. let y = mul-le-mul_right t k in absurd (omega arith))

pub one_word_of_parts : OneWordOfParts
one_word_of_parts m d b x f h =
    one-word-made m (suc d) b x f
    (λ j l.
    let s = block_pages d in
    let c = cut s (block_pages (suc d)) b j (size_some d) (size_step d) l in
    let i = j / s in
    let r = j % s in
    let part = h i c.0 in
    let along = one-word-says m d (512 * b + i) part.0 in
    let first : m ((512 * b + i) * s) ≡ advance x (i * s) = part.1 in
    ap m (sym c.2) ∙ along.1 r c.1 ∙ ap (λ e. advance e r) first ∙ advance-more x (i * s) r ∙ ap (λ k. advance x k) c.3)

-- maps that agree on a block
pub one-word-same : (m n : Map) (b : Block)
    → ((i : ℕ) → i < span b → m (first_page b + i) ≡ n (first_page b + i))
    → is_one_word m b ≡ is_one_word n b
one-word-same m n b h = same-tests (is_one_word m b) (is_one_word n b) (goes m n h) (goes n m (λ i l. sym (h i l)))
  where
    goes : (m n : Map)
        → ((i : ℕ) → i < span b → m (first_page b + i) ≡ n (first_page b + i))
        → is_one_word m b ≡ true
        → is_one_word n b ≡ true
    goes m n h t =
        let x = (one_word_means m b).0 t in
        let z : first_page b + 0 ≡ first_page b = omega arith in
        let e : m (first_page b) ≡ n (first_page b) = ap m (sym z) ∙ h 0 (size_some b.0) ∙ ap n z in
        (one_word_means n b).1
        (ap (fits_word b.0) (sym e) ∙ x.0, λ i l. sym (h i l) ∙ x.1 i l ∙ ap (λ y. advance y i) e)
