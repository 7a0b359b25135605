-- The frames of the tables that count.
use Rattle.std.proofs.Common.{◌≡◌, ℕ, zero, suc, ◌+◌, ◌-◌, ◌<◌, ◌≤◌, ◌&&◌, nat_le, Bool, true, false, List, [], ◌∷◌, Option, Some, None, refl, sym, ap, ◌∙◌, subst, arith}
use Rattle.std.specs.Prelude.{nat_lt}
use Rattle.std.specs.List.{list_any}
use Rattle.std.proofs.lemmas.Bool.Decides.{nat_tests}
use Rattle.page_state.specs.Blocks.{block_eq}
use Rattle.page_state.specs.Geometries.{block_pages}
use Rattle.page_state.specs.Layouts.{Layout}
use Rattle.page_state.specs.Search.{count_below}
use Rattle.page_state.specs.Trees.{Block, Tree}
use Rattle.page_state.proofs.BlockTests.{block_eq-same}
use Rattle.page_state.proofs.Cases.{by_test, by_eq}
use Rattle.page_state.proofs.Common.{and-both, eq-same, same-tests, or-neither}
use Rattle.reference_model.specs.model.Owner.{count_blocks, is_frame, is_table_frame}
use Rattle.ghost_trees.specs.declared.tree.Table.{Table}
use Rattle.ghost_spec.specs.Found.{has_place, is_table_with, any_table_with}
use Rattle.ghost_trees.specs.Trees.{table_of}

-- counts

counted-below : (n i : ℕ) (test : ℕ → Bool) → i < n → test i ≡ true → 0 < count_below n test
counted-below zero i test h t = absurd (omega arith)
counted-below (suc n) i test h t = by_eq i n
    (λ e. let here : test n ≡ true = subst (λ j. test j ≡ true) e t in rw (count_below, here) (omega arith))
    (λ e. let more : 0 < count_below n test = counted-below n i test (omega (arith, e)) t in omega (arith, more))

counted : (top d e i : ℕ) (test : Block → Bool)
    → 1 ≤ e
    → e ≤ d
    → i < block_pages (top - e)
    → test (e, i) ≡ true
    → 0 < count_blocks top d test
counted top zero e i test a b h t = absurd (omega arith)
counted top (suc d) e i test a b h t = by_eq e (suc d)
    (λ q. let here : test (suc d, i) ≡ true = subst (λ (j : ℕ). test (j, i) ≡ true) q t in
    let less : i < block_pages (top - suc d) = subst (λ (j : ℕ). i < block_pages (top - j)) q h in
    omega (arith, counted-below (block_pages (top - suc d)) i (λ j. test (suc d, j)) less here))
    (λ q. omega (arith, counted top d e i test a (omega (arith, q)) h t))

-- a number that is counted

some-below : (n : ℕ) (test : ℕ → Bool) → 0 < count_below n test → (i : ℕ) × (i < n) × (test i ≡ true)
some-below zero test h = absurd (omega arith)
some-below (suc n) test h = by_test (test n)
    (λ t. (n, omega arith, t))
    (λ t. let more : 0 < 0 + count_below n test = rw t at h in
    let found = some-below n test (omega arith) in
    let less = found.1 in
    (found.0, omega (arith, less), found.2))

pub record IsCounted (top d : ℕ) (test : Block → Bool) : Type 0 where
  pub block : Block
  pub some : 1 ≤ block.0
  pub within : block.0 ≤ d
  pub low : block.1 < block_pages (top - block.0)
  pub passes : test block ≡ true

some-block : (top d : ℕ) (test : Block → Bool) → 0 < count_blocks top d test → IsCounted top d test
some-block top zero test h = absurd (omega arith)
some-block top (suc d) test h = by_test (nat_lt 0 (count_below (block_pages (top - suc d)) (λ i. test (suc d, i))))
    (λ t. let found = some-below (block_pages (top - suc d)) (λ i. test (suc d, i)) (grind (arith, nat_tests)) in
    record { block = (suc d, found.0); some = omega arith; within = omega arith; low = found.1; passes = found.2 })
    (λ t. let found = some-block top d test (grind (arith, nat_tests)) in
    record {
      block = found.block;
      some = found.some;
      within = omega (arith, found.within);
      low = found.low;
      passes = found.passes;
    })

-- lists

any-holds : (P : Table → Bool) (Q : Type 0) (ts : List Table)
    → list_any P ts ≡ true
    → ((t : Table) → P t ≡ true → Q)
    → Q
any-holds P Q [] h u = cc
any-holds P Q (t ∷ ts) h u = by_test (P t) (λ k. u t k) (λ k. any-holds P Q ts (rw k at h) u)

any-none : (P : Table → Bool) (ts : List Table) (b : Block) (g : ℕ)
    → list_any P ts ≡ false
    → table_of ts b ≡ Some g
    → ((t : Table) → t.block ≡ b → P t ≡ true)
    → ⊥
any-none P [] b g h e u = let no_table : None ≡ Some g = e in cc
any-none P (t ∷ ts) b g h e u =
    let both = or-neither (P t) (list_any P ts) h in
    by_test (block_eq t.block b)
    (λ k. let yes_t : P t ≡ true = u t (block_eq-same t.block b k) in let bad : true ≡ false = sym yes_t ∙ both.0 in cc)
    (λ k. any-none P ts b g both.1 (rw k at e) u)

is_frame-same : (f : ℕ) (o : Option ℕ) → is_frame f o ≡ true → o ≡ Some f
is_frame-same f None h = cc
is_frame-same f (Some g) h = ap Some (eq-same g f h)

module _ (l : Layout) (t : Tree) (ts : List Table) (f : ℕ) (same : t.table ≡ table_of ts) where
  abbrev test : Block → Bool
  test b = is_frame f (table_of ts b)

  there : any_table_with l.depth ts f ≡ true → 0 < count_blocks (l.depth + 1) (l.depth + 1) test
  there h = any-holds (is_table_with l.depth ts f) (0 < count_blocks (l.depth + 1) (l.depth + 1) test) ts h
      (λ a k. let e = and-both (has_place l.depth a.block) (is_frame f (table_of ts a.block)) k in
      let p =
      and-both (nat_le 1 a.block.0 && nat_le a.block.0 (l.depth + 1))
      (nat_lt a.block.1 (block_pages (l.depth + 1 - a.block.0))) e.0 in
      let q = and-both (nat_le 1 a.block.0) (nat_le a.block.0 (l.depth + 1)) p.0 in
      counted (l.depth + 1) (l.depth + 1) a.block.0 a.block.1 test (grind (arith, nat_tests, q.0))
      (grind (arith, nat_tests, q.1)) (grind (arith, nat_tests, p.1)) e.1)

  back : 0 < count_blocks (l.depth + 1) (l.depth + 1) test → any_table_with l.depth ts f ≡ true
  back h = by_test (any_table_with l.depth ts f) (λ k. k)
      (λ k. let c = some-block (l.depth + 1) (l.depth + 1) test h in
      let has : table_of ts c.block ≡ Some f = is_frame-same f (table_of ts c.block) c.passes in
      let placed : has_place l.depth c.block ≡ true = grind (arith, nat_tests, c.some, c.within, c.low) in
      absurd (any-none (is_table_with l.depth ts f) ts c.block f k has
      (λ a e. rw (e, placed, c.passes) refl)))

  pub any-is : any_table_with l.depth ts f ≡ is_table_frame l t f
  any-is = rw same (same-tests (any_table_with l.depth ts f) (nat_lt 0 (count_blocks (l.depth + 1) (l.depth + 1) test))
      (λ h. let c = there h in grind (arith, nat_tests))
      (λ h. back (grind (arith, nat_tests))))
