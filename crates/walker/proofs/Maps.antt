-- The map of a table as a change goes on, part by part.
use Rattle.std.proofs.Common.{◌≡◌, ℕ, ◌+◌, ◌-◌, ◌*◌, ◌/◌, ◌%◌, ◌^◌, ◌<◌, ◌≤◌, ◌≢◌, sym, ap, arith, ◌∙◌, cond, ◌&&◌, min}
use Rattle.std.proofs.lemmas.Bool.Decides.{nat_tests}
use Rattle.std.specs.Prelude.{nat_lt, nat_le}
use Rattle.std.proofs.Math.Nat.{mul-le-mul_left, mul-le-mul_right}
use Rattle.page_state.specs.declared.entry.Entry.{Entry}
use Rattle.page_state.specs.Entries.{advance}
use Rattle.page_state.proofs.Sizes.{size_some}
use Rattle.page_state.proofs.Cases.{by_eq, by_lt}
use Rattle.page_state.proofs.Entries.{advance-more}
use Rattle.table_tree.specs.Meaning.{index_at}
use Rattle.table_tree.proofs.Digits.{digits}
use Rattle.walk_plan.specs.declared.change.Change.{Change}
use Rattle.walk_plan.specs.Changes.{part, changed_entry}
use Rattle.walker.specs.inner.Walks.{upto}

pub changed_in : (d : ℕ) (m : ℕ → Entry) (c : Change) (q : ℕ)
    → c.first ≤ q % 2 ^ (9 * d)
    → q % 2 ^ (9 * d) < c.end
    → changed_entry d m c q ≡ advance c.entry (q % 2 ^ (9 * d) - c.first)
changed_in d m c q a b = grind (arith, nat_tests)

pub changed_before : (d : ℕ) (m : ℕ → Entry) (c : Change) (q : ℕ)
    → q % 2 ^ (9 * d) < c.first
    → changed_entry d m c q ≡ m q
changed_before d m c q a = grind (arith, nat_tests)

pub changed_after : (d : ℕ) (m : ℕ → Entry) (c : Change) (q : ℕ) → c.end ≤ q % 2 ^ (9 * d) → changed_entry d m c q ≡ m q
changed_after d m c q a = grind (arith, nat_tests)

pub changed_at : (d : ℕ) (m n : ℕ → Entry) (c : Change) (q : ℕ)
    → m q ≡ n q
    → changed_entry d m c q ≡ changed_entry d n c q
changed_at d m n c q e =
    ap
    (λ x. cond (nat_le c.first (q % 2 ^ (9 * d)) && nat_lt (q % 2 ^ (9 * d)) c.end)
    (advance c.entry (q % 2 ^ (9 * d) - c.first)) x) e

-- a page of part `i` under the whole change, and under the part's
pub part_map : (d i : ℕ) (c : Change) (m n : ℕ → Entry) (q : ℕ)
    → index_at d q ≡ i
    → m q ≡ n q
    → changed_entry d m (part d i c) q ≡ changed_entry (d + 1) n (upto c ((i + 1) * 2 ^ (9 * d))) q
part_map d i c m n q x e =
    let s = 2 ^ (9 * d) in
    let z = size_some d in
    let r = q % s in
    let u = q % 2 ^ (9 * (d + 1)) in
    let k : u ≡ i * s + r = digits d q ∙ ap (λ j. j * s + r) x in
    let l : r < s = omega (arith, z) in
    by_lt u c.first
    (λ a. changed_before d m (part d i c) q (omega (arith, k)) ∙ e
    ∙ sym (changed_before (d + 1) n (upto c ((i + 1) * s)) q a))
    (λ a. by_lt u c.end
    (λ b.
    let v : c.first - i * s ≤ r = omega (arith, k) in
    let w : r < min (c.end - i * s) s = omega (arith, k) in
    let w' : u < min c.end ((i + 1) * s) = omega (arith, k) in
    let o : (i * s - c.first) + (r - (c.first - i * s)) ≡ u - c.first = omega (arith, k) in
    changed_in d m (part d i c) q v w ∙ advance-more c.entry (i * s - c.first) (r - (c.first - i * s))
    ∙ ap (λ j. advance c.entry j) o ∙ sym (changed_in (d + 1) n (upto c ((i + 1) * s)) q a w'))
    (λ b. changed_after d m (part d i c) q (omega (arith, k)) ∙ e
    ∙ sym (changed_after (d + 1) n (upto c ((i + 1) * s)) q (omega (arith, b)))))

-- a page of another part
pub other_map : (d i : ℕ) (c : Change) (m : ℕ → Entry) (q : ℕ)
    → index_at d q ≢ i
    → changed_entry (d + 1) m (upto c (i * 2 ^ (9 * d))) q ≡ changed_entry (d + 1) m (upto c ((i + 1) * 2 ^ (9 * d))) q
other_map d i c m q x =
    let s = 2 ^ (9 * d) in
    let z = size_some d in
    let r = q % s in
    let j = index_at d q in
    let u = q % 2 ^ (9 * (d + 1)) in
    let k : u ≡ j * s + r = digits d q in
    let l : r < s = omega (arith, z) in
    by_lt u c.first
    (λ a. changed_before (d + 1) m (upto c (i * s)) q a ∙ sym (changed_before (d + 1) m (upto c ((i + 1) * s)) q a))
    (λ a. by_lt u c.end
    (λ b. by_lt j i
    (λ y.
    let p : j + 1 ≤ i = omega arith in
    let t : (j + 1) * s ≤ i * s = mul-le-mul_right s p in
    let v : u < min c.end (i * s) = omega (arith, k, t) in
    let w : u < min c.end ((i + 1) * s) = omega (arith, k, t) in
    changed_in (d + 1) m (upto c (i * s)) q a v ∙ sym (changed_in (d + 1) m (upto c ((i + 1) * s)) q a w))
    (λ y.
    let p : i + 1 ≤ j = omega arith in
    let t : (i + 1) * s ≤ j * s = mul-le-mul_right s p in
    changed_after (d + 1) m (upto c (i * s)) q (omega (arith, k, t))
    ∙ sym (changed_after (d + 1) m (upto c ((i + 1) * s)) q (omega (arith, k, t)))))
    (λ b. changed_after (d + 1) m (upto c (i * s)) q (omega (arith, b))
    ∙ sym (changed_after (d + 1) m (upto c ((i + 1) * s)) q (omega (arith, b)))))

-- nothing is done before the first part
pub start_map : (d : ℕ) (c : Change) (m : ℕ → Entry) (q : ℕ)
    → m q ≡ changed_entry (d + 1) m (upto c (c.first / 2 ^ (9 * d) * 2 ^ (9 * d))) q
start_map d c m q =
    let s = 2 ^ (9 * d) in
    let u = q % 2 ^ (9 * (d + 1)) in
    let z = size_some d in
    by_lt u c.first
    (λ a. sym (changed_before (d + 1) m (upto c (c.first / s * s)) q a))
    (λ a. sym (changed_after (d + 1) m (upto c (c.first / s * s)) q (omega (arith, z, a))))

-- all is done after the last one
pub end_map : (d i : ℕ) (c : Change) (m : ℕ → Entry) (q : ℕ)
    → 1 ≤ c.end
    → (c.end - 1) / 2 ^ (9 * d) + 1 ≤ i
    → changed_entry (d + 1) m (upto c (i * 2 ^ (9 * d))) q ≡ changed_entry (d + 1) m c q
end_map d i c m q k p =
    let s = 2 ^ (9 * d) in
    let z = size_some d in
    let t : s * ((c.end - 1) / s + 1) ≤ s * i = mul-le-mul_left s p in
    let e : min c.end (i * s) ≡ c.end = omega (arith, t, z) in
    ap (λ n. changed_entry (d + 1) m (record { first = c.first; end = n; entry = c.entry }) q) e

-- pages of part `i` and of those after it are as before
pub untouched : (d i : ℕ) (c : Change) (m : ℕ → Entry) (q : ℕ)
    → i ≤ index_at d q
    → changed_entry (d + 1) m (upto c (i * 2 ^ (9 * d))) q ≡ m q
untouched d i c m q h =
    let k = digits d q in
    let t : i * 2 ^ (9 * d) ≤ index_at d q * 2 ^ (9 * d) = mul-le-mul_right (2 ^ (9 * d)) h in
    changed_after (d + 1) m (upto c (i * 2 ^ (9 * d))) q (omega (arith, k, t))

-- one more part is done
pub next_map : (d i : ℕ) (c : Change) (o m n : ℕ → Entry)
    → ((q : ℕ) → m q ≡ changed_entry (d + 1) o (upto c (i * 2 ^ (9 * d))) q)
    → ((q : ℕ) → index_at d q ≡ i → n q ≡ changed_entry d m (part d i c) q) → ((q : ℕ) → index_at d q ≢ i → n q ≡ m q)
    → (q : ℕ) → n q ≡ changed_entry (d + 1) o (upto c ((i + 1) * 2 ^ (9 * d))) q
next_map d i c o m n before here other q =
    by_eq (index_at d q) i
    (λ x. here q x ∙ part_map d i c m o q x (before q ∙ untouched d i c o q (omega (arith, x))))
    (λ x. other q x ∙ before q ∙ other_map d i c o q x)
