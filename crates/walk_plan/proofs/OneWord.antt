-- When a block is one word after a change.
use Rattle.std.proofs.Common.{◌≡◌, ℕ, suc, ◌+◌, ◌-◌, ◌*◌, ◌<◌, ◌≤◌, refl, sym, ap, arith, ◌∙◌, inl, inr, ◌⊎◌, mul-le-mul_right, Bool, true, false, ◌&&◌, ◌||◌, ◌==◌, nat_lt}
use Rattle.std.proofs.lemmas.Bool.Decides.{nat_tests}
use Rattle.page_state.specs.declared.entry.Entry.{Entry}
use Rattle.page_state.specs.Entries.{advance}
use Rattle.page_state.specs.EntryTests.{entry_eq}
use Rattle.page_state.specs.Map.{Map}
use Rattle.page_state.specs.Blocks.{fits_word, is_one_word}
use Rattle.page_state.specs.Geometries.{block_pages}
use Rattle.page_state.proofs.Blocks.{one_word_means, and-join}
use Rattle.page_state.proofs.Sizes.{size_step, size_some}
use Rattle.page_state.proofs.Cases.{by_lt}
use Rattle.page_state.proofs.Common.{eq-same, and-both, eq-made}
use Rattle.page_state.proofs.Entries.{advance-none, advance-more, entry_eq-same, entry_eq-self}
use Rattle.page_state.proofs.Fits.{fits_part}
use Rattle.walk_plan.specs.declared.change.Change.{Change}
use Rattle.walk_plan.specs.Changes.{part, is_whole, stays_one_word as is_one_word_after}
use Rattle.walk_plan.proofs.Entries.{advance_back}
use Rattle.walk_plan.proofs.Walked.{meets}

-- tests

or_left : (a b : Bool) → a ≡ true → a || b ≡ true
or_left true b h = refl
or_left false b h = cc

or_right : (a b : Bool) → b ≡ true → a || b ≡ true
or_right true b h = refl
or_right false b h = h

by_or : {P : Type 0} (a b : Bool) → a || b ≡ true → (a ≡ true → P) → (b ≡ true → P) → P
by_or true b h f g = f refl
by_or false b h f g = g h

pub same_test : (a b : Bool) → (a ≡ true → b ≡ true) → (b ≡ true → a ≡ true) → a ≡ b
same_test true b f g = sym (f refl)
same_test false true f g = g refl
same_test false false f g = refl

-- a map with a change made
pub record IsMade (c : Change) (m n : Map) : Type 0 where
  pub inside : (q : ℕ) → c.first ≤ q → q < c.end → n q ≡ advance c.entry (q - c.first)
  pub outside : (q : ℕ) → (q < c.first) ⊎ (c.end ≤ q) → n q ≡ m q

-- and what it is in a block
module _ (c : Change) (m n : Map) (made : IsMade c m n) (d b : ℕ) where
  pub made_inside : (i : ℕ)
      → (part d b c).first ≤ i
      → i < (part d b c).end
      → n (b * block_pages d + i) ≡ advance (part d b c).entry (i - (part d b c).first)
  made_inside i p q =
      let k = b * block_pages d in
      let e : k - c.first + (i - (c.first - k)) ≡ k + i - c.first = omega arith in
      made.inside (k + i) (omega arith) (omega arith)
      ∙ sym (advance-more c.entry (k - c.first) (i - (c.first - k)) ∙ ap (λ z. advance c.entry z) e)

  pub made_outside : (i : ℕ)
      → i < block_pages d
      → (i < (part d b c).first) ⊎ ((part d b c).end ≤ i)
      → n (b * block_pages d + i) ≡ m (b * block_pages d + i)
  made_outside i p h =
      made.outside (b * block_pages d + i) (elim h [ inl q ↦ inl (omega arith) | inr q ↦ inr (omega arith) ])

-- what the test of a block says

abbrev Along : Map → ℕ → ℕ → ℕ → Type 0
Along n s d b = (fits_word d (n (b * s)) ≡ true) × ((i : ℕ) → i < s → n (b * s + i) ≡ advance (n (b * s)) i)

one_word_says : (n : Map) (d b : ℕ) → is_one_word n (d, b) ≡ true → Along n (block_pages d) d b
one_word_says n d b h = (one_word_means n (d, b)).0 h

pub one_word_made : (n : Map) (d b : ℕ) (y : Entry)
    → fits_word d y ≡ true
    → ((i : ℕ) → i < block_pages d → n (b * block_pages d + i) ≡ advance y i)
    → is_one_word n (d, b) ≡ true
one_word_made n d b y f h =
    let z : b * block_pages d + 0 ≡ b * block_pages d = omega arith in
    let e : n (b * block_pages d) ≡ y = ap n (sym z) ∙ h 0 (size_some d) ∙ advance-none y in
    let along : Along n (block_pages d) d b = (ap (fits_word d) e ∙ f, λ i p. h i p ∙ ap (λ x. advance x i) (sym e)) in
    (one_word_means n (d, b)).1 along

-- the parts of a block that is one word are one word
pub one_word_part : (n : Map) (d b i : ℕ)
    → i < 512
    → is_one_word n (suc d, b) ≡ true
    → is_one_word n (d, 512 * b + i) ≡ true
one_word_part n d b i q h =
    let y = n (b * block_pages (suc d)) in
    let x = one_word_says n (suc d) b h in
    one_word_made n d (512 * b + i) (advance y (i * block_pages d)) (fits_part d i y q x.0)
    (λ j r.
    let at = places (block_pages d) (block_pages (suc d)) b i j (size_step d) q r in
    ap n at.0 ∙ x.1 (i * block_pages d + j) at.1 ∙ sym (advance-more y (i * block_pages d) j))
  where
    places : (s z b i j : ℕ)
        → z ≡ 512 * s
        → i < 512
        → j < s
        → ((512 * b + i) * s + j ≡ b * z + (i * s + j)) × (i * s + j < z)
    places s z b i j e p q =
        let k : i + 1 ≤ 512 = omega arith in
        let y = mul-le-mul_right s k in
        (rw e (omega arith), rw e (omega (arith, y)))

-- a block without a table is one word after a change just where the code's test says so
module _ (c : Change) (m n : Map) (made : IsMade c m n) (d b : ℕ) (x : Entry) (met : meets c d b ≡ true)
    (fits : fits_word d x ≡ true) (old : (i : ℕ) → i < block_pages d → m (b * block_pages d + i) ≡ advance x i) where
  abbrev f : ℕ
  f = (part d b c).first

  abbrev e : ℕ
  e = (part d b c).end

  abbrev y : Entry
  y = (part d b c).entry

  abbrev size : ℕ
  size = block_pages d

  some : f < e
  some = let h : nat_lt f e ≡ true = met in grind (arith, nat_tests)

  within : e ≤ size
  within = omega arith

  whole_word : is_whole d (part d b c) ≡ true → is_one_word n (d, b) ≡ true
  whole_word h =
      let t = and-both (f == 0 && e == size) (fits_word d y) h in
      let u = and-both (f == 0) (e == size) t.0 in
      let start : f ≡ 0 = eq-same f 0 u.0 in
      let stop : e ≡ size = eq-same e size u.1 in
      one_word_made n d b y t.1
      (λ i q. let z : i - f ≡ i = omega arith in
      made_inside c m n made d b i (omega arith) (omega arith) ∙ ap (λ k. advance y k) z)

  same_word : advance x f ≡ y → is_one_word n (d, b) ≡ true
  same_word h =
      one_word_made n d b x fits
      (λ i q. by_lt i f
      (λ r. made_outside c m n made d b i q (inl r) ∙ old i q)
      (λ r. by_lt i e
      (λ t. let z : f + (i - f) ≡ i = omega arith in
      made_inside c m n made d b i r t ∙ ap (λ w. advance w (i - f)) (sym h) ∙ advance-more x f (i - f)
      ∙ ap (λ k. advance x k) z)
      (λ t. made_outside c m n made d b i q (inr t) ∙ old i q)))

  one_to : is_one_word_after d x (part d b c) ≡ true → is_one_word n (d, b) ≡ true
  one_to h =
      by_or (is_whole d (part d b c)) (entry_eq (advance x f) y) h whole_word
      (λ k. same_word (entry_eq-same (advance x f) y k))

  at_first : n (b * size + f) ≡ y
  at_first = let z : f - f ≡ 0 = omega arith in
      made_inside c m n made d b f (omega arith) some ∙ ap (λ k. advance y k) z ∙ advance-none y

  same_left : advance x f ≡ y → is_one_word_after d x (part d b c) ≡ true
  same_left h = or_right (is_whole d (part d b c)) (entry_eq (advance x f) y) (rw h (entry_eq-self y))

  -- the change begins with the block
  at_start : is_one_word n (d, b) ≡ true → f ≡ 0 → is_one_word_after d x (part d b c) ≡ true
  at_start h g =
      let w = n (b * size) in
      let along = one_word_says n d b h in
      let z : b * size ≡ b * size + f = omega arith in
      let is : w ≡ y = ap n z ∙ at_first in
      by_lt e size
      (λ less.
      let last : size - 1 < size = omega arith in
      let new : n (b * size + (size - 1)) ≡ advance w (size - 1) = along.1 (size - 1) last in
      let was : n (b * size + (size - 1)) ≡ advance x (size - 1) =
      made_outside c m n made d b (size - 1) last (inr (omega arith)) ∙ old (size - 1) last in
      let same : x ≡ w = advance_back x w (size - 1) (sym was ∙ new) in
      same_left (ap (λ k. advance x k) g ∙ advance-none x ∙ same ∙ is))
      (λ more.
      let stop : e ≡ size = omega arith in
      or_left (is_whole d (part d b c)) (entry_eq (advance x f) y)
      (and-join (f == 0 && e == size) (fits_word d y)
      (and-join (f == 0) (e == size) (eq-made f 0 g) (eq-made e size stop)) (ap (fits_word d) (sym is) ∙ along.0)))

  -- it begins later
  past_start : is_one_word n (d, b) ≡ true → 0 < f → is_one_word_after d x (part d b c) ≡ true
  past_start h g =
      let w = n (b * size) in
      let along = one_word_says n d b h in
      let z : b * size ≡ b * size + 0 = omega arith in
      let is : w ≡ x =
      ap n z ∙ made_outside c m n made d b 0 (size_some d) (inl g) ∙ old 0 (size_some d) ∙ advance-none x in
      same_left (ap (λ v. advance v f) (sym is) ∙ sym (along.1 f (omega (arith, some, within))) ∙ at_first)

  pub one_word_same : is_one_word n (d, b) ≡ is_one_word_after d x (part d b c)
  one_word_same =
      same_test (is_one_word n (d, b)) (is_one_word_after d x (part d b c))
      (λ h. by_lt 0 f (past_start h) (λ g. let z : f ≡ 0 = omega arith in at_start h z)) one_to
