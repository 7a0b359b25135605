use Rattle.std.proofs.Common.{◌≡◌, ℕ, zero, suc, ◌+◌, ◌*◌, ◌/◌, ◌^◌, ◌<◌, ◌≤◌, refl, sym, ap, arith, ◌∙◌, cond, Bool, true, false, ◌==◌, ◌&&◌, ltb, Option, Some, None, add-zero}
use Rattle.std.proofs.lemmas.Bool.Decides.{nat_tests}
use Rattle.std.proofs.Math.Nat.{div-eq_of_lt, div-lt_iff_lt-mul, mul-le-mul_right}
use mathlib.Core.Path.{fun_ext}
use Rattle.page_state.specs.declared.entry.Entry.{Entry}
use Rattle.page_state.specs.declared.entry.Entry.TheVariants.{Unmapped, Malformed, Annotated, Leaf}
use Rattle.page_state.specs.declared.layout.Geometry.{Geometry}
use Rattle.page_state.specs.Entries.{advance}
use Rattle.page_state.specs.Map.{Map, empty_map}
use Rattle.page_state.specs.Trees.{Block, Tree as ReferenceTree, root_tree}
use Rattle.page_state.specs.Geometries.{levels_below, input_pages, block_pages}
use Rattle.page_state.proofs.Sizes.{size_some}
use Rattle.page_state.proofs.Cases.{by_eq}
use Rattle.page_state.proofs.Common.{eq-made, eq-other}
use Rattle.table_tree.specs.declared.table.Table.{Table}
use Rattle.table_tree.specs.declared.tree.Tree.{Tree}
use Rattle.table_tree.specs.Meaning.{frame_of, entry_at}
use Rattle.table_tree.specs.Shape.{IsBlank}
use Rattle.table_tree.specs.Tables.{table_in}
use Rattle.table_tree.specs.View.{meaning, table_at, tree_of}
use Rattle.table_tree.proofs.Steps.{blank_entries, blank_words}
use Rattle.table_tree.proofs.Standing.{words_standing, by_lt}
use Rattle.table_tree.specs.Roots.{map_under, table_under}

pub advance_zero : (x : Entry) (n : ℕ) → n ≡ 0 → advance x n ≡ x
advance_zero Malformed n e = refl
advance_zero Unmapped n e = refl
advance_zero (Annotated o) n e = refl
advance_zero (Leaf f p k s) n e = let wrap : ℕ → Entry = λ a. Leaf (record { 0 = a }) p k s in
    rw e (ap wrap (add-zero f.0))

pub less_test : (a b : ℕ) → a < b → ltb a b ≡ true
less_test a b h = grind (arith, nat_tests)

more_test : (a b : ℕ) → (a < b → ⊥) → ltb a b ≡ false
more_test a b h = grind (arith, nat_tests)

both_true : (a b : Bool) (x y : Option ℕ) → a ≡ true → b ≡ true → cond (a && b) x y ≡ x
both_true a b x y e f = rw (e, f) refl

left_right : (a b : Bool) (x y : Option ℕ) → b ≡ false → cond (a && b) x y ≡ y
left_right true b x y e = rw e refl
left_right false b x y e = refl

left_out : (a b : Bool) (x y : Option ℕ) → a ≡ false → cond (a && b) x y ≡ y
left_out a b x y e = rw e refl

none_cond : (b : Bool) (x : Option ℕ) → x ≡ None → cond b x None ≡ None
none_cond true x e = e
none_cond false x e = refl

too_far : (number s m : ℕ) → (number ≡ 0 → ⊥) → s ≡ m → number * s < m → ⊥
too_far number s m h e l = let k : 1 ≤ number = omega arith in
    let x : 1 * s ≤ number * s = mul-le-mul_right s k in
    omega (arith, x, e, l)

quotient_some : (q s : ℕ) → 1 ≤ s → (q < s → ⊥) → q / s ≡ 0 → ⊥
quotient_some q s h n e =
    let l : q / s < 1 = omega arith in
    let x : q < 1 * s = (div-lt_iff_lt-mul h).0 l in
    n (omega (arith, x))

-- the map of a geometry's root table
unfoldable pub map_of : {A : Type 0} → Geometry → Table A → ℕ → Entry
map_of g t page = cond (ltb page (input_pages g)) (entry_at (levels_below g) t page) Unmapped

-- a tree by its parts
abbrev tree : Map → (Block → Option ℕ) → ReferenceTree
tree m t = record { map = m; table = t }

module _ {A : Type 0} where
  pub meaning_is : (t : Tree A) → meaning t ≡ map_of t.geometry t.table
  unfolding meaning map_of map_under
  meaning_is t = refl

  pub map_inside : (g : Geometry) (t : Table A) (page : ℕ)
      → page < input_pages g
      → map_of g t page ≡ entry_at (levels_below g) t page
  unfolding map_of
  map_inside g t page h = rw (less_test page (input_pages g) h) refl

  pub map_outside : (g : Geometry) (t : Table A) (page : ℕ) → (page < input_pages g → ⊥) → map_of g t page ≡ Unmapped
  unfolding map_of
  map_outside g t page h = rw (more_test page (input_pages g) h) refl

  pub map_in : (g : Geometry) (t : Table A) (d page : ℕ)
      → d ≡ levels_below g
      → page / 2 ^ (9 * (d + 1)) ≡ 0
      → entry_at d t page ≡ map_of g t page
  map_in g t d page e h =
      let s = size_some (d + 1) in
      let lt : page < block_pages (d + 1) =
      by_lt page (block_pages (d + 1)) (λ x. x) (λ x. absurd (quotient_some page (block_pages (d + 1)) s x h)) in
      let lt' : page < input_pages g = rw (sym e) lt in
      rw e (sym (map_inside g t page lt'))

  pub map_over : (g : Geometry) (t : Table A) (d page : ℕ)
      → d ≡ levels_below g
      → (page / 2 ^ (9 * (d + 1)) ≡ 0 → ⊥)
      → Unmapped ≡ map_of g t page
  map_over g t d page e h = sym (map_outside g t page (λ l. h (div-eq_of_lt (rw e l))))

  pub meaning_in : (t : Tree A) (d page : ℕ)
      → d ≡ levels_below t.geometry
      → page / 2 ^ (9 * (d + 1)) ≡ 0
      → entry_at d t.table page ≡ meaning t page
  meaning_in t d page e h = map_in t.geometry t.table d page e h ∙ sym (ap (λ m. m page) (meaning_is t))

  pub meaning_over : (t : Tree A) (d page : ℕ)
      → d ≡ levels_below t.geometry
      → (page / 2 ^ (9 * (d + 1)) ≡ 0 → ⊥)
      → Unmapped ≡ meaning t page
  meaning_over t d page e h = map_over t.geometry t.table d page e h ∙ sym (ap (λ m. m page) (meaning_is t))

  map_blank : (g : Geometry) (t : Table A) → IsBlank t → map_of g t ≡ empty_map
  map_blank g t h =
      fun_ext
      (λ q. by_lt q (input_pages g) (λ l. map_inside g t q l ∙ blank_entries (levels_below g) t h q)
      (λ l. map_outside g t q l))

  standing_blank : (t : Tree A) (root depth number : ℕ)
      → IsBlank t.table
      → frame_of t.table ≡ root
      → table_at t depth number ≡ cond (depth == levels_below t.geometry + 1 && number == 0) (Some root) None
  unfolding table_at table_under
  standing_blank t root zero number h e = let z : (0 == levels_below t.geometry + 1) ≡ false =
      eq-other 0 (levels_below t.geometry + 1) (λ y. omega arith) in
      rw z refl
  standing_blank t root (suc low) number h e =
      let n = levels_below t.geometry in
      let s = block_pages (suc low) in
      let first =
      words_standing (levels_below t.geometry) t.table low (number * block_pages (suc low))
      (blank_words t.table h) in
      by_eq low (levels_below t.geometry)
      (λ z. let a : (suc low == levels_below t.geometry + 1) ≡ true =
      eq-made (suc low) (levels_below t.geometry + 1) (omega arith) in
      let o : suc low ≡ levels_below t.geometry + 1 = omega arith in
      by_eq number 0
      (λ y. let b = eq-made number 0 y in
      let l : number * block_pages (suc low) < input_pages t.geometry =
      let x = size_some (levels_below t.geometry + 1) in
      rw y (omega (arith, x)) in
      ap (λ v. cond v (table_in n t.table low (number * s)) None) (less_test _ _ l) ∙ first
      ∙ ap (λ v. cond v (Some (frame_of t.table)) None) (eq-made low n z) ∙ ap Some e ∙ sym (both_true _ _ _ _ a b))
      (λ y. let b = eq-other number 0 y in
      let l : number * block_pages (suc low) < input_pages t.geometry → ⊥ =
      λ x. too_far number (block_pages (suc low)) (input_pages t.geometry) y (ap block_pages o) x in
      ap (λ v. cond v (table_in n t.table low (number * s)) None) (more_test _ _ l) ∙ sym (left_right _ _ _ _ b)))
      (λ z. let a : (suc low == levels_below t.geometry + 1) ≡ false =
      eq-other (suc low) (levels_below t.geometry + 1) (λ y. z (omega arith)) in
      none_cond (ltb (number * s) (input_pages t.geometry)) (table_in n t.table low (number * s))
      (first ∙ ap (λ v. cond v (Some (frame_of t.table)) None) (eq-other low n z))
      ∙ sym (left_out _ _ _ _ a))

  pub tree_blank : (t : Tree A) (root : ℕ)
      → IsBlank t.table
      → frame_of t.table ≡ root
      → tree_of t ≡ root_tree (levels_below t.geometry) root
  tree_blank t root h e =
      ap (λ m. tree m (λ b. table_at t b.0 b.1)) (meaning_is t ∙ map_blank t.geometry t.table h)
      ∙ ap (tree empty_map) (fun_ext (λ (b : Block). standing_blank t root b.0 b.1 h e))
