use Rattle.std.proofs.Common.{◌≡◌, ℕ, zero, suc, ◌+◌, ◌-◌, ◌*◌, ◌/◌, ◌^◌, ◌<◌, ◌≤◌, refl, ap, arith, ◌∙◌, Bool, true, false, cond, add-one}
use Rattle.std.specs.Prelude.{nat_lt}
use Rattle.std.proofs.lemmas.Bool.Decides.{nat_tests}
use Rattle.std.proofs.Math.Nat.{mul-le-mul_left, mul-le-mul_right, pow-succ', pow-zero}
use native.Mathlib.Numerals.{unary_clauses}
use Rattle.std.specs.declared.boxed.Box.{Box}
use Rattle.descriptor.specs.Word.{desc_of, IsEncodable}
use Rattle.page_state.specs.declared.entry.Entry.{Entry}
use Rattle.page_state.specs.declared.entry.Entry.TheVariants.{Malformed, Unmapped, Annotated, Leaf}
use Rattle.page_state.specs.Entries.{advance, IsRangeEntry, entry_of_word, word_of_entry}
use Rattle.page_state.proofs.Sizes.{size_some, size_next}
use Rattle.page_state.proofs.Cases.{by_eq, by_lt}
use Rattle.table_tree.specs.declared.table.Table.{Table}
use Rattle.table_tree.specs.declared.table.Slot.{Slot}
use Rattle.table_tree.specs.declared.table.Slot.TheVariants.{Word, Child}
use Rattle.table_tree.specs.Meaning.{slot_at, level_at}
use Rattle.table_tree.proofs.Slots.{case_word, case_child}
use Rattle.walk_plan.specs.declared.change.Change.{Change}
use Rattle.walk_plan.specs.Changes.{IsChange, part, stays_one_word}
use Rattle.walk_plan.specs.inner.Needs.{met, sum_to, block_need, slot_need, table_need, block_parts, table_parts}

pub range_advance : (n m k : ℕ) (e : Entry) → IsRangeEntry n e → k + m ≤ n → IsRangeEntry m (advance e k)
range_advance n m k Malformed h p = h
range_advance n m k Unmapped h p = h
range_advance n m k (Annotated o) h p = h
range_advance n m k (Leaf f r q s) h p = omega arith

pub size_before : (d : ℕ) → 1 ≤ d → 2 ^ (9 * d) ≡ 512 * 2 ^ (9 * (d - 1))
size_before d k = let e : 9 * d ≡ 9 * ((d - 1) + 1) = omega arith in rw e (size_next (d - 1))

-- the parts that a change meets
pub first_part : (s i a : ℕ) → 1 ≤ s → a / s ≤ i → a < (i + 1) * s
first_part s i a k h = let m : s * (a / s) ≤ s * i = mul-le-mul_left s h in omega (arith, m)

pub last_part : (s i b : ℕ) → 1 ≤ s → 1 ≤ b → i < (b - 1) / s + 1 → i * s < b
last_part s i b k p h = let q : i ≤ (b - 1) / s = omega arith in
    let m : s * i ≤ s * ((b - 1) / s) = mul-le-mul_left s q in
    omega (arith, m)

pub before_part : (s i a : ℕ) → 1 ≤ s → i < a / s → (i + 1) * s ≤ a
before_part s i a k h = let q : i + 1 ≤ a / s = omega arith in
    let m : s * (i + 1) ≤ s * (a / s) = mul-le-mul_left s q in
    omega (arith, m)

pub after_part : (s i b : ℕ) → 1 ≤ s → 1 ≤ b → (b - 1) / s + 1 ≤ i → b ≤ i * s
after_part s i b k p h = let m : s * ((b - 1) / s + 1) ≤ s * i = mul-le-mul_left s h in omega (arith, m)

pub part_in : (d i : ℕ) (c : Change) → IsChange (d + 1) c → i < (c.end - 1) / 2 ^ (9 * d) + 1 → i < 512
part_in d i c h q =
    let l = last_part (2 ^ (9 * d)) i c.end (size_some d) (omega (arith, h.some)) q in
    let e = size_next d in
    let m : 512 ≤ i → 512 * 2 ^ (9 * d) ≤ i * 2 ^ (9 * d) = λ z. mul-le-mul_right (2 ^ (9 * d)) z in
    let w = h.within in by_lt i 512 (λ z. z) (λ z. absurd (omega (arith, l, e, w, m z)))

pub part_is : (d i : ℕ) (c : Change)
    → IsChange (d + 1) c
    → c.first / 2 ^ (9 * d) ≤ i
    → i < (c.end - 1) / 2 ^ (9 * d) + 1
    → IsChange d (part d i c)
part_is d i c h p q =
    let s = 2 ^ (9 * d) in
    let a : c.first < (i + 1) * s = first_part s i c.first (size_some d) p in
    let b : i * s < c.end = last_part s i c.end (size_some d) (omega (arith, h.some)) q in
    record {
      some = omega (arith, h.some, a, b, size_some d);
      within = omega arith;
      entry = range_advance (c.end - c.first) _ (i * s - c.first) c.entry h.entry (omega (arith, h.some, a, b));
    }

pub met_some : (d i : ℕ) (c : Change) (f : ℕ → Change → ℕ) → IsChange d (part d i c) → met d c f i ≡ f i (part d i c)
unfolding met
met_some d i c f h = let s : (part d i c).first < (part d i c).end = h.some in grind (arith, nat_tests)

met_none : (d i : ℕ) (c : Change) (f : ℕ → Change → ℕ) → (part d i c).end ≤ (part d i c).first → met d c f i ≡ 0
unfolding met
met_none d i c f h = grind (arith, nat_tests)

pub met_before : (d i : ℕ) (c : Change) (f : ℕ → Change → ℕ) → i < c.first / 2 ^ (9 * d) → met d c f i ≡ 0
met_before d i c f h = let b = before_part (2 ^ (9 * d)) i c.first (size_some d) h in
    met_none d i c f (omega (arith, b))

pub met_after : (d i : ℕ) (c : Change) (f : ℕ → Change → ℕ)
    → 1 ≤ c.end
    → (c.end - 1) / 2 ^ (9 * d) + 1 ≤ i
    → met d c f i ≡ 0
met_after d i c f k h = let b = after_part (2 ^ (9 * d)) i c.end (size_some d) k h in
    met_none d i c f (omega (arith, b))

pub sum_next : (f : ℕ → ℕ) (n : ℕ) → sum_to f (n + 1) ≡ sum_to f n + f n
unfolding sum_to
sum_next f n = rw add-one refl

pub sum_none : (f : ℕ → ℕ) (n : ℕ) → ((k : ℕ) → k < n → f k ≡ 0) → sum_to f n ≡ 0
unfolding sum_to
sum_none f zero h = refl
sum_none f (suc n) h = omega (arith, sum_none f n (λ k p. h k (omega arith)), h n (omega arith))

-- a table without levels below it needs none
pub leaf_need : {A : Type 0} (t : Table A) (d : ℕ) (c : Change) → d ≡ 0 → table_need d t c ≡ 0
unfolding met slot_need table_parts
leaf_need t d c e =
    ap (λ n. table_need n t c) e
    ∙ sum_none (met 0 c (table_parts 0 t)) 512 (λ k l. either (nat_lt (part 0 k c).first (part 0 k c).end))
  where
    either : (b : Bool) → cond {A = ℕ} b 0 0 ≡ 0
    either true = refl
    either false = refl

sum_rest : (f : ℕ → ℕ) (n m : ℕ) → ((k : ℕ) → n ≤ k → f k ≡ 0) → sum_to f (n + m) ≡ sum_to f n
unfolding sum_to
sum_rest f n zero h = ap (λ k. sum_to f k) (omega arith)
sum_rest f n (suc m) h = let e : n + suc m ≡ suc (n + m) = omega arith in
    rw e (omega (arith, sum_rest f n m h, h (n + m) (omega arith)))

pub sum_mono : (f : ℕ → ℕ) (n m : ℕ) → n ≤ m → sum_to f n ≤ sum_to f m
unfolding sum_to
sum_mono f n zero h = let e : n ≡ 0 = omega arith in rw e (omega arith)
sum_mono f n (suc m) h =
    by_eq n (suc m) (λ z. rw z (omega arith)) (λ z. let le : n ≤ m = omega arith in omega (arith, sum_mono f n m le))

-- the sum over the parts that a change meets
pub met_start : (d : ℕ) (c : Change) (f : ℕ → Change → ℕ) → sum_to (met d c f) (c.first / 2 ^ (9 * d)) ≡ 0
met_start d c f = sum_none _ _ (λ k p. met_before d k c f p)

pub met_end : (d i : ℕ) (c : Change) (f : ℕ → Change → ℕ)
    → IsChange (d + 1) c
    → (c.end - 1) / 2 ^ (9 * d) + 1 ≤ i
    → i ≤ 512
    → sum_to (met d c f) 512 ≡ sum_to (met d c f) i
met_end d i c f h p q =
    let e : 512 ≡ i + (512 - i) = omega arith in
    let k : 1 ≤ c.end = omega (arith, h.some) in
    ap (λ n. sum_to (met d c f) n) e ∙ sum_rest (met d c f) i (512 - i) (λ j r. met_after d j c f k (omega arith))

pub block_none : (n : ℕ) (x : Entry) (c : Change) → n ≡ 0 → block_need n x c ≡ 0
unfolding block_need
block_none n x c e = rw e refl

pub block_one : (n : ℕ) (x : Entry) (c : Change) → stays_one_word n x c ≡ true → block_need n x c ≡ 0
unfolding block_need
block_one zero x c e = refl
block_one (suc n) x c e = rw e refl

pub block_split : (n : ℕ) (x : Entry) (c : Change)
    → 1 ≤ n
    → stays_one_word n x c ≡ false
    → block_need n x c ≡ 1 + sum_to (met (n - 1) c (block_parts (n - 1) x)) 512
unfolding block_need block_parts
block_split zero x c k e = absurd (omega arith)
block_split (suc n) x c k e = rw e (simp unary_clauses)

module _ {A : Type 0} where
  pub slot_word : (n w : ℕ) (s : Slot A) (c : Change)
      → s ≡ Word w
      → slot_need n s c ≡ block_need n (entry_of_word (desc_of (level_at n) w)) c
  unfolding slot_need block_need
  slot_word zero w s c e = refl
  slot_word (suc n) w s c e = rw e (case_word _ _ w)

  pub slot_child : (n : ℕ) (b : Box (Table A) A) (s : Slot A) (c : Change)
      → 1 ≤ n
      → s ≡ Child b
      → slot_need n s c ≡ table_need (n - 1) b.value c
  unfolding slot_need table_parts
  slot_child zero b s c k e = absurd (omega arith)
  slot_child (suc n) b s c k e = rw e (case_child _ _ b ∙ simp unary_clauses)

-- every page under a word has an entry that the last level can say
pub said_range : (d : ℕ) (x : Entry) → d < 4 → IsEncodable (level_at d) (word_of_entry x) → IsRangeEntry (2 ^ (9 * d)) x
said_range d Malformed p h = absurd h
said_range d Unmapped p h = tt
said_range d (Annotated o) p h = h
said_range zero (Leaf f a k s) p h = let z = h.2 in let y = h.1 in omega arith
said_range (suc zero) (Leaf f a k s) p h = let z = h.2 in let y = h.1 in omega arith
said_range (suc (suc zero)) (Leaf f a k s) p h = let z = h.2 in let y = h.1 in omega arith
said_range (suc (suc (suc d))) (Leaf f a k s) p h = let no : false ≡ true = h.0 in absurd (cc)

pub change_below : (d : ℕ) (c : Change) → 1 ≤ d → IsChange d c → IsChange (d - 1 + 1) c
change_below d c k h = let e : d - 1 + 1 ≡ d = omega arith in rw e h

-- a part of a block that the last level can say
pub block_part : (d i : ℕ) (x : Entry)
    → 1 ≤ d
    → i < 512
    → IsRangeEntry (2 ^ (9 * d)) x
    → IsRangeEntry (2 ^ (9 * (d - 1))) (advance x (i * 2 ^ (9 * (d - 1))))
block_part d i x k p' h =
    let p : i + 1 ≤ 512 = omega arith in
    let m : (i + 1) * 2 ^ (9 * (d - 1)) ≤ 512 * 2 ^ (9 * (d - 1)) = mul-le-mul_right (2 ^ (9 * (d - 1))) p in
    range_advance (2 ^ (9 * d)) (2 ^ (9 * (d - 1))) (i * 2 ^ (9 * (d - 1))) x h (omega (arith, m, size_before d k))

pow_some : (a d : ℕ) → 1 ≤ a → 1 ≤ a ^ d
pow_some a zero h = omega (arith, pow-zero a)
pow_some a (suc d) h = let e : a ^ suc d ≡ a * a ^ d = pow-succ' a d in
    let m : a * 1 ≤ a * a ^ d = mul-le-mul_left a (pow_some a d h) in
    omega (arith, e, m)

-- the parts that the loops go over
pub span : (d : ℕ) (c : Change)
    → IsChange (d + 1) c
    → (c.first / 2 ^ (9 * d) ≤ (c.end - 1) / 2 ^ (9 * d) + 1) × ((c.end - 1) / 2 ^ (9 * d) + 1 ≤ 512)
span d c h =
    let s = 2 ^ (9 * d) in
    let e : 1 ≤ c.end = omega (arith, h.some) in
    let b = before_part s ((c.end - 1) / s + 1) c.first (size_some d) in
    let a = after_part s ((c.end - 1) / s + 1) c.end (size_some d) e (omega arith) in
    let l : (c.end - 1) / s < 512 = part_in d ((c.end - 1) / s) c h (omega arith) in (
      by_lt ((c.end - 1) / s + 1) (c.first / s) (λ z. absurd (omega (arith, b z, a, h.some))) (λ z. z),
      omega (arith, l),
    )

pub thousand : (d : ℕ) → 1 ≤ 1024 ^ d
thousand d = pow_some 1024 d (omega arith)

pub block_parts_is : (d : ℕ) (x : Entry) (i : ℕ) (c : Change)
    → block_parts d x i c ≡ block_need d (advance x (i * 2 ^ (9 * d))) c
unfolding block_parts
block_parts_is d x i c = refl

pub table_parts_is : {A : Type 0} (d : ℕ) (t : Table A) (i : ℕ) (c : Change)
    → table_parts d t i c ≡ slot_need d (slot_at t i) c
unfolding table_parts
table_parts_is d t i c = refl

pub powers_next : (n : ℕ) → n < 4 → (1024 ^ (n + 1) ≡ 1024 * 1024 ^ n) × (1 ≤ 1024 ^ n) × (1024 ^ n ≤ 1073741824)
powers_next zero p = (omega arith, omega arith, omega arith)
powers_next (suc zero) p = (omega arith, omega arith, omega arith)
powers_next (suc (suc zero)) p = (omega arith, omega arith, omega arith)
powers_next (suc (suc (suc zero))) p = (omega arith, omega arith, omega arith)
powers_next (suc (suc (suc (suc n)))) p = absurd (omega arith)

pub powers : (n : ℕ)
    → 1 ≤ n
    → n < 4
    → (1024 ^ n ≡ 1024 * 1024 ^ (n - 1)) × (1 ≤ 1024 ^ (n - 1)) × (1024 ^ (n - 1) ≤ 1048576)
powers zero p q = absurd (omega arith)
powers (suc zero) p q = (omega arith, omega arith, omega arith)
powers (suc (suc zero)) p q = (omega arith, omega arith, omega arith)
powers (suc (suc (suc zero))) p q = (omega arith, omega arith, omega arith)
powers (suc (suc (suc (suc n)))) p q = absurd (omega arith)
