use Rattle.std.proofs.Common.{◌≡◌, ℕ, ◌+◌, ◌-◌, ◌*◌, ◌/◌, ◌^◌, ◌<◌, ◌≤◌, ◌≢◌, arith, cond, min}
use Rattle.std.proofs.lemmas.Bool.Decides.{nat_tests}
use Rattle.std.specs.Prelude.{nat_lt, nat_le}
use Rattle.std.proofs.Math.Nat.{mul-le-mul_right}
use Rattle.walk_plan.specs.declared.change.Change.{Change}
use Rattle.walk_plan.specs.Changes.{IsChange, part}
use Rattle.walk_plan.specs.inner.Looks.{edge, edges}
use Rattle.page_state.proofs.Sizes.{size_some, size_next}
use Rattle.page_state.proofs.Cases.{by_eq, by_lt}
use Rattle.walk_plan.proofs.Ranges.{first_part, last_part, after_part, before_part}

edge_same : (k a b : ℕ) → a ≡ b → edge k a b ≡ 0
unfolding edge
edge_same k a b e = grind (arith, nat_tests)

edge_other : (k a b : ℕ) → a ≢ b → edge k a b ≡ k
unfolding edge
edge_other k a b e = grind (arith, nat_tests)

edge_most : (k a b : ℕ) → edge k a b ≤ k
edge_most k a b = by_eq a b (λ e. omega (arith, edge_same k a b e)) (λ e. omega (arith, edge_other k a b e))

edge_below : (k l a b : ℕ) → k ≤ l → edge k a b ≤ edge l a b
edge_below k l a b h =
    by_eq a b (λ e. omega (arith, edge_same k a b e, edge_same l a b e))
    (λ e. omega (arith, edge_other k a b e, edge_other l a b e, h))

unfoldable left : ℕ → ℕ → Change → ℕ → ℕ
left k d c i = cond (nat_le (i * 2 ^ (9 * d)) c.first) 0 (edge k c.first 0)

unfoldable right : ℕ → ℕ → Change → ℕ → ℕ
right k d c i = cond (nat_lt c.end (i * 2 ^ (9 * d))) k 0

left_lo : (k d i : ℕ) (c : Change) → i * 2 ^ (9 * d) ≤ c.first → left k d c i ≡ 0
unfolding left
left_lo k d i c h = grind (arith, nat_tests)

left_hi : (k d i : ℕ) (c : Change) → c.first < i * 2 ^ (9 * d) → left k d c i ≡ edge k c.first 0
unfolding left
left_hi k d i c h = grind (arith, nat_tests)

right_lo : (k d i : ℕ) (c : Change) → i * 2 ^ (9 * d) ≤ c.end → right k d c i ≡ 0
unfolding right
right_lo k d i c h = grind (arith, nat_tests)

right_hi : (k d i : ℕ) (c : Change) → c.end < i * 2 ^ (9 * d) → right k d c i ≡ k
unfolding right
right_hi k d i c h = grind (arith, nat_tests)

-- the pages of a change before part `i`
pub done : ℕ → Change → ℕ → ℕ
done d c i = min c.end (i * 2 ^ (9 * d)) - c.first

-- the ends that were met before part `i`
pub ends : ℕ → ℕ → Change → ℕ → ℕ
ends k d c i = left k d c i + right k d c i

pub ends_start : (k d : ℕ) (c : Change) → c.first < c.end → ends k d c (c.first / 2 ^ (9 * d)) ≡ 0
unfolding ends
ends_start k d c h =
    let s = 2 ^ (9 * d) in
    let z = size_some d in
    let l : c.first / s * s ≤ c.first = omega (arith, z) in
    omega (arith, left_lo k d (c.first / s) c l, right_lo k d (c.first / s) c (omega (arith, l, h)))

left_next : (k d i : ℕ) (c : Change)
    → c.first < (i + 1) * 2 ^ (9 * d)
    → left k d c i + edge k (part d i c).first 0 ≤ left k d c (i + 1)
left_next k d i c a =
    let s = 2 ^ (9 * d) in
    let n = left_hi k d (i + 1) c a in
    by_lt c.first (i * s)
    (λ x. omega (arith, n, left_hi k d i c x, edge_same k (part d i c).first 0 (omega (arith, x))))
    (λ x. by_eq (i * s) c.first
    (λ y. omega (arith, n, left_lo k d i c x, edge_same k (part d i c).first 0 (omega (arith, y))))
    (λ y. omega (
      arith,
      n,
      left_lo k d i c x,
      edge_other k (part d i c).first 0 (omega (arith, x, y)),
      edge_other k c.first 0 (omega (arith, x, y)),
    )))

right_next : (k d i : ℕ) (c : Change)
    → i * 2 ^ (9 * d) < c.end
    → right k d c i + edge k (part d i c).end (2 ^ (9 * d)) ≤ right k d c (i + 1)
right_next k d i c b =
    let s = 2 ^ (9 * d) in
    let n = right_lo k d i c (omega (arith, b)) in
    by_lt c.end ((i + 1) * s)
    (λ x. omega (arith, n, right_hi k d (i + 1) c x, edge_other k (part d i c).end s (omega (arith, x, b))))
    (λ x. omega (arith, n, right_lo k d (i + 1) c x, edge_same k (part d i c).end s (omega (arith, x, b))))

pub ends_next : (k d i : ℕ) (c : Change)
    → IsChange (d + 1) c
    → c.first / 2 ^ (9 * d) ≤ i
    → i < (c.end - 1) / 2 ^ (9 * d) + 1
    → (ends k d c i + edges k d (part d i c) ≤ ends k d c (i + 1))
    × (done d c i + ((part d i c).end - (part d i c).first) ≡ done d c (i + 1))
unfolding ends done
ends_next k d i c h p q =
    let s = 2 ^ (9 * d) in
    let a = first_part s i c.first (size_some d) p in
    let b = last_part s i c.end (size_some d) (omega (arith, h.some)) q in
    (omega (arith, left_next k d i c a, right_next k d i c b), omega (arith, a, b, h.some))

left_end : (k d i : ℕ) (c : Change) → left k d c i ≤ edge k c.first 0
left_end k d i c =
    by_lt c.first (i * 2 ^ (9 * d)) (λ x. omega (arith, left_hi k d i c x)) (λ x. omega (arith, left_lo k d i c x))

right_end : (k d i : ℕ) (c : Change) → i ≤ 512 → right k d c i ≤ edge k c.end (2 ^ (9 * (d + 1)))
right_end k d i c p =
    let s = 2 ^ (9 * d) in
    let m : i * s ≤ 512 * s = mul-le-mul_right s p in
    let z = size_next d in
    by_lt c.end (i * s)
    (λ x. omega (arith, right_hi k d i c x, edge_other k c.end (2 ^ (9 * (d + 1))) (omega (arith, x, m, z))))
    (λ x. omega (arith, right_lo k d i c x))

pub ends_end : (k d i : ℕ) (c : Change)
    → IsChange (d + 1) c
    → (c.end - 1) / 2 ^ (9 * d) + 1 ≤ i
    → i ≤ 512
    → (ends k d c i ≤ edges k (d + 1) c) × (done d c i ≡ c.end - c.first)
unfolding ends done
ends_end k d i c h q p =
    let b = after_part (2 ^ (9 * d)) i c.end (size_some d) (omega (arith, h.some)) q in
    (omega (arith, left_end k d i c, right_end k d i c p), omega (arith, b))

-- a change of a whole table meets all of its parts
pub whole_parts : (d i : ℕ) (c : Change)
    → c.first ≡ 0
    → c.end ≡ 2 ^ (9 * (d + 1))
    → (c.end - 1) / 2 ^ (9 * d) + 1 ≤ i
    → (c.first / 2 ^ (9 * d) ≡ 0) × (512 ≤ i)
whole_parts d i c a b q =
    let s = 2 ^ (9 * d) in
    let z = size_some d in
    let n = size_next d in
    let l = after_part s i c.end z (omega (arith, b, n, z)) q in
    let m = λ (x : i + 1 ≤ 512). mul-le-mul_right s x in
    let zero : c.first / s ≡ 0 =
    by_eq (c.first / s) 0 (λ e. e)
    (λ e. absurd
    (let k : 0 < c.first / s = omega (arith, e) in
    let y = before_part s 0 c.first z k in
    omega (arith, y, a, z))) in
    (zero, by_lt i 512 (λ x. absurd (omega (arith, m (omega (arith, x)), l, b, n, z))) (λ x. x))

pub whole_edges : (k d : ℕ) (c : Change) → c.first ≡ 0 → c.end ≡ 2 ^ (9 * d) → edges k d c ≡ 0
whole_edges k d c a b = omega (arith, edge_same k c.first 0 a, edge_same k c.end (2 ^ (9 * d)) b)

-- a slot with a child, from what its table took
pub child_reads : (d a b : ℕ) (c : Change)
    → 1 ≤ d
    → 2 * b + 3 ≤ 2 * a + 5 * (c.end - c.first) + edges (1028 * (d - 1)) (d - 1 + 1) c
    → (c.first ≡ 0 → c.end ≡ 2 ^ (9 * (d - 1 + 1)) → 2 * b + 1536 ≤ 2 * a + 5 * (c.end - c.first))
    → 2 * b + 1031 ≤ 2 * a + 5 * (c.end - c.first) + edges (1028 * d) d c
child_reads d a b c k some whole =
    let e : d - 1 + 1 ≡ d = omega arith in
    let s = rw e at some in
    let w = rw e at whole in
    let n = 2 ^ (9 * d) in
    let i = edge_below (1028 * (d - 1)) (1028 * d) c.first 0 (omega arith) in
    let j = edge_below (1028 * (d - 1)) (1028 * d) c.end n (omega arith) in
    by_eq c.first 0
    (λ x. by_eq c.end n
    (λ y. omega (arith, w x y))
    (λ y. omega (arith, s, i, edge_other (1028 * (d - 1)) c.end n y, edge_other (1028 * d) c.end n y, k)))
    (λ x. omega (arith, s, j, edge_other (1028 * (d - 1)) c.first 0 x, edge_other (1028 * d) c.first 0 x, k))

pub some_part : (d : ℕ) (c : Change) → c.first < c.end → c.first / 2 ^ (9 * d) ≤ (c.end - 1) / 2 ^ (9 * d)
some_part d c h =
    let s = 2 ^ (9 * d) in
    let z = size_some d in
    by_lt ((c.end - 1) / s) (c.first / s)
    (λ x. let y = before_part s ((c.end - 1) / s) c.first z x in absurd (omega (arith, y, h, z)))
    (λ x. x)

pub child_looks : (d a b : ℕ) (c : Change)
    → 1 ≤ d
    → 2 * b + 1 ≤ 2 * a + 3 * (c.end - c.first) + edges (2 * (d - 1)) (d - 1 + 1) c
    → (c.first ≡ 0 → c.end ≡ 2 ^ (9 * (d - 1 + 1)) → 2 * b + 512 ≤ 2 * a + 3 * (c.end - c.first))
    → 2 * b + 3 ≤ 2 * a + 3 * (c.end - c.first) + edges (2 * d) d c
child_looks d a b c k some whole =
    let e : d - 1 + 1 ≡ d = omega arith in
    let s = rw e at some in
    let w = rw e at whole in
    let n = 2 ^ (9 * d) in
    let i = edge_below (2 * (d - 1)) (2 * d) c.first 0 (omega arith) in
    let j = edge_below (2 * (d - 1)) (2 * d) c.end n (omega arith) in
    by_eq c.first 0
    (λ x. by_eq c.end n
    (λ y. omega (arith, w x y))
    (λ y. omega (arith, s, i, edge_other (2 * (d - 1)) c.end n y, edge_other (2 * d) c.end n y, k)))
    (λ x. omega (arith, s, j, edge_other (2 * (d - 1)) c.first 0 x, edge_other (2 * d) c.first 0 x, k))

pub edges_most : (k d : ℕ) (c : Change) → edges k d c ≤ 2 * k
edges_most k d c = omega (arith, edge_most k c.first 0, edge_most k c.end (2 ^ (9 * d)))
