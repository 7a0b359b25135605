-- Blocks of pages by number, and the changes in them.
use Rattle.std.proofs.Common.{◌≡◌, ℕ, suc, ◌+◌, ◌-◌, ◌*◌, ◌/◌, ◌%◌, ◌<◌, ◌≤◌, min, refl, sym, ap, arith, ◌∙◌, mul-le-mul_right}
use Rattle.std.proofs.lemmas.Nat.{div-mul-add}
use Rattle.page_state.specs.declared.entry.Entry.{Entry}
use Rattle.page_state.specs.Entries.{advance}
use Rattle.page_state.specs.Geometries.{block_pages}
use Rattle.page_state.proofs.Sizes.{size_step}
use Rattle.page_state.proofs.Cases.{by_lt}
use Rattle.page_state.proofs.Entries.{advance-none, advance-more}
use Rattle.table_tree.specs.Meaning.{index_at}
use Rattle.walk_plan.specs.declared.change.Change.{Change}
use Rattle.walk_plan.specs.Changes.{part}

-- a page in a block

pub quotient : (k s q : ℕ) → k * s ≤ q → q < k * s + s → q / s ≡ k
quotient k s q low high =
    let e : q ≡ k * s + (q - k * s) = omega arith in
    let less : q - k * s < s = omega arith in
    ap (λ n. n / s) e ∙ div-mul-add k s (q - k * s) less

pub index_in : (d b i q : ℕ)
    → i < 512
    → (512 * b + i) * block_pages d ≤ q
    → q < (512 * b + i) * block_pages d + block_pages d
    → index_at d q ≡ i
index_in d b i q p low high = rw (quotient (512 * b + i) (block_pages d) q low high) (omega arith)

rest : (k s q : ℕ) → k * s ≤ q → q < k * s + s → q % s ≡ q - k * s
rest k s q low high =
    let e : q / s ≡ k = quotient k s q low high in
    let x : k * s ≡ q / s * s = ap (λ n. n * s) (sym e) in
    omega arith

pub place_in : (d b q : ℕ)
    → b * block_pages d ≤ q
    → q < b * block_pages d + block_pages d
    → q % block_pages d ≡ q - b * block_pages d
place_in d b q low high = rest b (block_pages d) q low high

pub place_small : (d q : ℕ) → q < block_pages d → q % block_pages d ≡ q
place_small d q h = let e = place_in d 0 q (omega arith) (omega arith) in omega arith

-- numbers of blocks, by the pages

pub less_scaled : (a b s : ℕ) → a * s < b * s → a < b
less_scaled a b s h = by_lt a b (λ p. p) (λ p. let y = mul-le-mul_right s p in absurd (omega (arith, y)))

pub from_part : (s z b i x : ℕ) → z ≡ 512 * s → (512 * b + i) * s ≤ x → b * z ≤ x
from_part s z b i x e h = rw e (omega arith)

pub to_part : (s z b i x : ℕ) → z ≡ 512 * s → i < 512 → x ≤ (512 * b + i) * s + s → x ≤ b * z + z
to_part s z b i x e p h = let q : i + 1 ≤ 512 = omega arith in let y = mul-le-mul_right s q in rw e (omega (arith, y))

-- parts of changes

abbrev change : ℕ → ℕ → Entry → Change
change f e x = record { first = f; end = e; entry = x }

same_change : {f g e h : ℕ} {x y : Entry} → f ≡ g → e ≡ h → x ≡ y → change f e x ≡ change g h y
same_change p q r = rw (p, q, r) refl

ends : (s z b i e : ℕ) → z ≡ 512 * s → i < 512 → min (min (e - b * z) z - i * s) s ≡ min (e - (512 * b + i) * s) s
ends s z b i e h p =
    let x : i + 1 ≤ 512 = omega arith in
    let y = mul-le-mul_right s x in
    rw h (omega (arith, y))

begins : (s z b i f : ℕ) → z ≡ 512 * s → f - b * z - i * s ≡ f - (512 * b + i) * s
begins s z b i f h = rw h (omega arith)

gaps : (s z b i f : ℕ) → z ≡ 512 * s → (b * z - f) + (i * s - (f - b * z)) ≡ (512 * b + i) * s - f
gaps s z b i f h = rw h (omega arith)

-- the part of a part is a part
pub part_part : (d b i : ℕ) (c : Change) → i < 512 → part d i (part (suc d) b c) ≡ part d (512 * b + i) c
part_part d b i c p =
    let z = size_step d in
    same_change
    (begins (block_pages d) (block_pages (suc d)) b i c.first z)
    (ends (block_pages d) (block_pages (suc d)) b i c.end z p)
    (advance-more c.entry (b * block_pages (suc d) - c.first) (i * block_pages d - (c.first - b * block_pages (suc d)))
    ∙ ap (λ n. advance c.entry n) (gaps (block_pages d) (block_pages (suc d)) b i c.first z))

-- a change of a block is its own part
pub part_all : (d : ℕ) (c : Change) → c.end ≤ block_pages d → part d 0 c ≡ c
part_all d c h =
    same_change (omega arith) (omega arith)
    (let e : 0 * block_pages d - c.first ≡ 0 = omega arith in rw e (advance-none c.entry))
