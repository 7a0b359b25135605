-- The indexes of blocks that have a table, and what a search of them tells.
use Rattle.std.proofs.Common.{◌≡◌, ℕ, zero, suc, ◌+◌, ◌<◌, ◌≤◌, true, false, List, [], ◌∷◌, ◌++◌, take, length, get_or, Result, Ok, Err, refl, sym, ap, subst, ◌∙◌, inl, inr, arith}
use Rattle.std.specs.Prelude.{◌==◌, ◌↔◌, ◌⊎◌, is_ok, is_some, Contains, MatchResult}
use Rattle.std.proofs.lemmas.List.{append_assoc, append-nil}
use Rattle.std.proofs.lemmas.List.Elements.{Contains-append_cases, Contains-append_left, Contains-append_right}
use Rattle.page_state.specs.Blocks.{block_eq}
use Rattle.page_state.specs.Trees.{Block}
use Rattle.page_state.proofs.BlockTests.{block_eq-same}
use Rattle.page_state.proofs.Cases.{by_lt, by_test}
use Rattle.page_state.proofs.Common.{eq-self}
use Rattle.ghost_trees.specs.declared.tree.Table.{Table}
use Rattle.ghost_trees.specs.Trees.{table_of}
use Rattle.ghost_coarse.specs.inner.Served.{index_in, indexes_in}

more : (depth : ℕ) (ts : List Table) (i : ℕ) (d : Table)
    → i < length ts
    → indexes_in depth (take (suc i) ts) ≡ indexes_in depth (take i ts) ++ index_in depth (get_or ts i d).block
more depth [] i d less = absurd (omega (arith, less))
more depth (t ∷ ts) zero d less = append-nil (index_in depth t.block)
more depth (t ∷ ts) (suc i) d less =
    ap (λ ys. index_in depth t.block ++ ys) (more depth ts i d (omega (arith, less)))
    ∙ sym
    (append_assoc (index_in depth t.block) (indexes_in depth (take i ts))
    (index_in depth (get_or ts i d).block))

-- one table more
pub indexes-more : (depth : ℕ) (ts : List Table) (i : ℕ) (d : Table) (now then : List ℕ)
    → i < length ts
    → now ≡ indexes_in depth (take i ts)
    → then ≡ now ++ index_in depth (get_or ts i d).block
    → then ≡ indexes_in depth (take (i + 1) ts)
indexes-more depth ts i d now then less a b =
    let n : suc i ≡ i + 1 = omega arith in
    b ∙ ap (λ ys. ys ++ index_in depth (get_or ts i d).block) a ∙ sym (more depth ts i d less)
    ∙ ap (λ (m : ℕ). indexes_in depth (take m ts)) n

same-self : (b : Block) → block_eq b b ≡ true
same-self b = rw (eq-self b.0, eq-self b.1) refl

-- a table of a list is found at its block
pub there : (ts : List Table) (i : ℕ) (d : Table) → i < length ts → is_some (table_of ts (get_or ts i d).block) ≡ true
there [] i d less = absurd (omega (arith, less))
there (t ∷ ts) zero d less = rw (same-self t.block) refl
there (t ∷ ts) (suc i) d less = by_test (block_eq t.block (get_or ts i d).block)
    (λ e. rw e refl)
    (λ e. rw e (there ts i d (omega (arith, less))))

one-index : (depth i : ℕ) (b : Block) → Contains (index_in depth b) i → b ≡ (depth, i)
one-index depth i b h = by_test (b.0 == depth)
    (λ e. let k : Contains (b.1 ∷ []) i = rw e at h in at e k.0 k.1 k.2)
    (λ e. let k : Contains [] i = rw e at h in absurd (omega (arith, k.1)))
  where
    at : (b.0 == depth) ≡ true → (k : ℕ) → k < length (b.1 ∷ []) → get_or (b.1 ∷ []) k i ≡ i → b ≡ (depth, i)
    at e zero less s = block_eq-same b (depth, i) (rw (e, s) (eq-self i))
    at e (suc k) less s = absurd (omega (arith, less))

index-one : (depth i : ℕ) (b : Block) → b ≡ (depth, i) → Contains (index_in depth b) i
index-one depth i b e =
    subst (λ (x : Block). Contains (index_in depth x) i) (sym e) (rw (eq-self depth) (0, omega arith, refl))

index-table : (depth i : ℕ) (ts : List Table)
    → Contains (indexes_in depth ts) i
    → is_some (table_of ts (depth, i)) ≡ true
index-table depth i [] h = absurd (omega (arith, h.1))
index-table depth i (t ∷ ts) h = by_test (block_eq t.block (depth, i))
    (λ e. rw e refl)
    (λ e. rw e
    (go (index-table depth i ts) (Contains-append_cases (index_in depth t.block) (indexes_in depth ts) i h) e))
  where
    go : (Contains (indexes_in depth ts) i → is_some (table_of ts (depth, i)) ≡ true)
        → Contains (index_in depth t.block) i ⊎ Contains (indexes_in depth ts) i
        → block_eq t.block (depth, i) ≡ false
        → is_some (table_of ts (depth, i)) ≡ true
    go f (inl k) e = let same : t.block ≡ (depth, i) = one-index depth i t.block k in
        let bad : block_eq t.block (depth, i) ≡ true =
        ap (λ (x : Block). block_eq x (depth, i)) same ∙ same-self (depth, i) in
        let no : true ≡ false = sym bad ∙ e in cc
    go f (inr k) e = f k

table-index : (depth i : ℕ) (ts : List Table)
    → is_some (table_of ts (depth, i)) ≡ true
    → Contains (indexes_in depth ts) i
table-index depth i [] h = cc
table-index depth i (t ∷ ts) h = by_test (block_eq t.block (depth, i))
    (λ e. Contains-append_left (index_in depth t.block) (indexes_in depth ts) i
    (index-one depth i t.block (block_eq-same t.block (depth, i) e)))
    (λ e. let k : is_some (table_of ts (depth, i)) ≡ true = rw e at h in
    Contains-append_right (index_in depth t.block) (indexes_in depth ts) i (table-index depth i ts k))

pub indexes-are : (depth i : ℕ) (ts : List Table)
    → Contains (indexes_in depth ts) i ↔ (is_some (table_of ts (depth, i)) ≡ true)
indexes-are depth i ts = (index-table depth i ts, table-index depth i ts)

other-default : (xs : List ℕ) (k a b : ℕ) → k < length xs → get_or xs k a ≡ get_or xs k b
other-default [] k a b less = absurd (omega (arith, less))
other-default (x ∷ xs) zero a b less = refl
other-default (x ∷ xs) (suc k) a b less = other-default xs k a b (omega (arith, less))

-- a search of numbers in order tells whether one is among them
pub found-or-not : (xs : List ℕ) (x : ℕ) (r : Result ℕ ℕ)
    → MatchResult r (λ i. (i < length xs) × (get_or xs i 0 ≡ x))
    (λ i. (i ≤ length xs)
    × ((k : ℕ) → k < i → get_or xs k 0 < x)
    × ((k : ℕ) → i ≤ k → k < length xs → x < get_or xs k 0))
    → (is_ok r ≡ true) ↔ Contains xs x
found-or-not xs x (Ok i) h = (λ t. (i, h.0, other-default xs i x 0 h.0 ∙ h.1), λ k. refl)
found-or-not xs x (Err i) h = (
  λ t. absurd (cc),
  λ k.
      let e : get_or xs k.0 0 ≡ x = other-default xs k.0 0 x k.1 ∙ k.2 in
      by_lt k.0 i
      (λ l. let m = h.1 k.0 l in absurd (omega (arith, m, e)))
      (λ l. let m = h.2 k.0 l k.1 in absurd (omega (arith, m, e))),
)
