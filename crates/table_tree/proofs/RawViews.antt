-- A poke of a table is one of its tree, seen from outside.
use Rattle.std.proofs.Common.{◌≡◌, ℕ, zero, suc, ◌+◌, ◌-◌, ◌*◌, ◌/◌, ◌%◌, ◌<◌, ◌≤◌, List, [], ◌∷◌, length, refl, sym, ap, subst, arith, ◌∙◌, Option, Some, None}
use Rattle.std.proofs.Math.Nat.{div-div-eq-div-mul, div-lt_iff_lt-mul, div-eq_of_lt}
use mathlib.Core.Path.{fun_ext}
use Rattle.page_state.specs.declared.layout.Geometry.{Geometry}
use Rattle.page_state.specs.Geometries.{levels_below, input_pages, block_pages}
use Rattle.page_state.proofs.Sizes.{size_some, size_next, size_add}
use Rattle.table_tree.specs.declared.table.Table.{Table}
use Rattle.table_tree.specs.declared.tree.Tree.{Tree}
use Rattle.table_tree.specs.declared.raw.RawTree.{RawTree}
use Rattle.table_tree.specs.Meaning.{index_at, word_entry, entry_at, word_at}
use Rattle.table_tree.specs.View.{meaning, word_of, table_at}
use Rattle.table_tree.specs.Raw.{IsRaw, IsPoked, IsPokedMap, IsInBlock}
use Rattle.table_tree.specs.RawView.{raw_meaning, raw_word_of, raw_table_at}
use Rattle.table_tree.specs.Said.{block_number, block_of}
use Rattle.table_tree.specs.inner.Pokes.{Leads, IsPokedTable}
use Rattle.table_tree.proofs.PathNumbers.{Small, number_from, leads, number_small}
use Rattle.table_tree.proofs.Paths.{IsGood}
use Rattle.table_tree.proofs.Slots.{by_slot, slot_child_is}
use Rattle.table_tree.proofs.Standing.{by_lt}
use Rattle.table_tree.proofs.Steps.{path_end, path_over, path_stop}
use Rattle.table_tree.proofs.RawTables.{raw_slot, raw_child_is}
use Rattle.table_tree.proofs.Pokes.{path_in}
use Rattle.table_tree.proofs.Views.{map_of, map_inside, map_outside}
use Rattle.table_tree.specs.Roots.{map_under, table_under}

-- the pages under a path are those of its block
led_one : (n q a : ℕ) (i : ℕ) → index_at n q ≡ i → q / block_pages (n + 1) ≡ a → q / block_pages n ≡ a * 512 + i
led_one n q a i h k =
    let s : block_pages (n + 1) ≡ block_pages n * 512 = let x = size_next n in omega (arith, x) in
    let x : q / block_pages n / 512 ≡ a = div-div-eq-div-mul q (block_pages n) 512 ∙ ap (λ d. q / d) (sym s) ∙ k in
    let y : q / block_pages n % 512 ≡ i = h in
    omega (arith, x, y)

led : (n m q a : ℕ) (p : List ℕ)
    → m + length p ≡ n + 1
    → Leads n q p
    → q / block_pages (n + 1) ≡ a
    → q / block_pages m ≡ number_from a p
unfolding Leads
led n m q a [] e h k = let z : m ≡ n + 1 = omega arith in ap (λ d. q / block_pages d) z ∙ k
led n m q a (i ∷ []) e h k = let z : m ≡ n = omega arith in ap (λ d. q / block_pages d) z ∙ led_one n q a i h.0 k
led n m q a (i ∷ j ∷ r) e h k =
    let z : n - 1 + 1 ≡ n = omega arith in
    led (n - 1) m q (a * 512 + i) (j ∷ r) (omega arith) h.1 (ap (λ d. q / block_pages d) z ∙ led_one n q a i h.0 k)

-- a page of a path's block is an input page
page_below : (n m q : ℕ) (p : List ℕ)
    → m + length p ≡ n + 1
    → Small p
    → q / block_pages m ≡ block_number p
    → q < block_pages (n + 1)
page_below n m q p e s h =
    let x : q / block_pages m < block_pages (length p) = let y = number_small p s in omega (arith, y, h) in
    let z : q < block_pages (length p) * block_pages m = (div-lt_iff_lt-mul (size_some m)).0 x in
    let u : block_pages (n + 1) ≡ block_pages (length p) * block_pages m =
    ap block_pages (let v : n + 1 ≡ length p + m = omega arith in v) ∙ size_add (length p) m in
    omega (arith, z, u)

module _ {A : Type 0} where
  pub raw_meaning_is : (t : RawTree A) → raw_meaning t ≡ map_of t.geometry t.table
  unfolding raw_meaning map_of map_under
  raw_meaning_is t = refl

  by_input : (g : Geometry) (t u : Table A) (q : ℕ)
      → (q < input_pages g → entry_at (levels_below g) u q ≡ entry_at (levels_below g) t q)
      → map_of g u q ≡ map_of g t q
  by_input g t u q f = by_lt q (input_pages g)
      (λ l. map_inside g u q l ∙ f l ∙ sym (map_inside g t q l))
      (λ l. map_outside g u q l ∙ sym (map_outside g t q l))

  -- the map of a tree whose table was poked
  pub poked_map : (g : Geometry) (t u : Table A) (p : List ℕ) (word : ℕ)
      → IsGood (levels_below g) p
      → IsPokedTable (levels_below g) t u p word
      → IsPokedMap (block_of g p) (word_at t) (map_of g t) (map_of g u) p word
  poked_map g t u p word good h =
      let n = levels_below g in
      let e : levels_below g + 1 - length p + length p ≡ levels_below g + 1 = let x = good.1.0 in omega arith in
      record {
        outside =
            λ q x. by_input g t u q
            (λ l. h.outside q
            (λ y. x (led (levels_below g) (levels_below g + 1 - length p) q 0 p e y (div-eq_of_lt l))));
        same = λ x q. by_input g t u q (λ l. h.same x q);
        within =
            λ x q y. map_inside g u q (page_below (levels_below g) (levels_below g + 1 - length p) q p e good.1.1 y)
            ∙ h.within x q (leads (levels_below g) (levels_below g + 1 - length p) q 0 p e good.1.1 y);
      }

  -- a tree that was made a raw one
  pub same_standing : (t : Tree A) (r : RawTree A)
      → r.geometry ≡ t.geometry
      → r.table ≡ t.table
      → (depth number : ℕ)
      → raw_table_at r depth number ≡ table_at t depth number
  unfolding raw_table_at table_at table_under
  same_standing t r g h zero number = refl
  same_standing t r g h (suc low) number = rw (g, h) refl
