-- The words of a tree, by its map and its tables.
use Rattle.std.proofs.Common.{◌≡◌, ℕ, zero, suc, ◌+◌, ◌-◌, ◌*◌, ◌/◌, ◌%◌, ◌<◌, ◌≤◌, ◌↔◌, List, length, refl, sym, ap, arith, ◌∙◌, Option, Some, None, inl, inr, IsSome, MatchOption, IfSome, add-one, mul-le-mul_right}
use Rattle.std.proofs.lemmas.Nat.{div-mul-add, mod-mul-add}
use Rattle.std.proofs.Math.Nat.{div-div-eq-div-mul}
use Rattle.descriptor.specs.Word.{desc_of}
use Rattle.page_state.specs.Entries.{advance, entry_of_word}
use Rattle.page_state.specs.Blocks.{span, first_page}
use Rattle.page_state.specs.Geometries.{levels_below, input_pages, block_pages}
use Rattle.page_state.proofs.Sizes.{size_some, size_step, size_add}
use Rattle.table_tree.specs.declared.tree.Tree.{Tree}
use Rattle.table_tree.specs.Meaning.{level_at, entry_at, word_at}
use Rattle.table_tree.specs.Tables.{table_in}
use Rattle.table_tree.specs.View.{meaning, word_of, table_at, tree_of}
use Rattle.table_tree.specs.inner.Pokes.{Leads}
use Rattle.table_tree.specs.Said.{block_number, block_of, HasWord, IsOnlyWord, IsWordOf, IsRunOrTable}
use Rattle.table_tree.proofs.OnlyWords.{one_word}
use Rattle.table_tree.proofs.Views.{advance_zero, less_test}
use Rattle.table_tree.proofs.Standing.{by_lt}
use Rattle.table_tree.proofs.RawTables.{shaped_raw}
use Rattle.table_tree.proofs.PathNumbers.{Small, all_small, small_all, leads, number_small}
use Rattle.table_tree.proofs.Paths.{IsGood, IsRead, IsWordIn, IsPagesWord, good_path, one_index, table_same, read}
use Rattle.table_tree.specs.Roots.{map_under, table_under}

if_none : (o : Option ℕ) (P : Type 0) (Q : ℕ → Type 0) → o ≡ None → P → MatchOption o P Q
if_none o P Q e h = rw e h

if_some : (o : Option ℕ) (P : Type 0) (Q : ℕ → Type 0) (f : ℕ) → o ≡ Some f → Q f → MatchOption o P Q
if_some o P Q f e h = rw e h

value_of : (o : Option ℕ) → IsSome o → (w : ℕ) × (o ≡ Some w)
value_of None h = absurd (cc)
value_of (Some w) h = (w, refl)

is_value : (o : Option ℕ) (w : ℕ) → o ≡ Some w → IsSome o
is_value o w e = rw e refl

by_value : {P : Type 0} (o : Option ℕ) → (o ≡ None → P) → ((w : ℕ) → o ≡ Some w → P) → P
by_value None f g = f refl
by_value (Some w) f g = g w refl

depth_is : (n k : ℕ) → k ≤ n + 1 → n + 1 - k + k ≡ n + 1
depth_is n k h = omega arith

-- the first page of a path's block, and the block above
module _ (n m : ℕ) (p : List ℕ) (e : m + length p ≡ n + 1) (s : Small p) where
  page_small : (i : ℕ) → i < block_pages m → block_number p * block_pages m + i < block_pages (n + 1)
  page_small i l =
      let x = number_small p s in
      let x' : block_number p + 1 ≤ block_pages (length p) = omega (arith, x) in
      let y : (block_number p + 1) * block_pages m ≤ block_pages (length p) * block_pages m =
      mul-le-mul_right (block_pages m) x' in
      let z : block_pages (n + 1) ≡ block_pages (length p) * block_pages m =
      ap block_pages (let u : n + 1 ≡ length p + m = omega arith in u) ∙ size_add (length p) m in
      omega (arith, y, z, l)

  page_leads : (i : ℕ) → i < block_pages m → Leads n (block_number p * block_pages m + i) p
  page_leads i l =
      leads n m (block_number p * block_pages m + i) 0 p e s (div-mul-add (block_number p) (block_pages m) i l)

  above_small : block_number p / 512 * block_pages (m + 1) < block_pages (n + 1)
  above_small =
      let x = page_small 0 (size_some m) in
      let y : block_pages (m + 1) ≡ 512 * block_pages m = rw add-one (size_step m) in
      let z : block_number p / 512 * 512 ≤ block_number p = omega arith in
      let u : block_number p / 512 * 512 * block_pages m ≤ block_number p * block_pages m =
      mul-le-mul_right (block_pages m) z in
      rw y (omega (arith, u, x))

  above_same : block_number p / 512 * block_pages (m + 1) / block_pages (m + 1)
      ≡ (block_number p * block_pages m + 0) / block_pages (m + 1)
  above_same =
      let z = size_some (m + 1) in
      let x : (block_number p / 512 * block_pages (m + 1) + 0) / block_pages (m + 1) ≡ block_number p / 512 =
      div-mul-add (block_number p / 512) (block_pages (m + 1)) 0 z in
      let y : block_pages (m + 1) ≡ block_pages m * 512 = let v = size_step m in
      let w : block_pages (m + 1) ≡ 512 * block_pages m = rw add-one v in
      omega (arith, w) in
      let u : (block_number p * block_pages m + 0) / block_pages m ≡ block_number p =
      div-mul-add (block_number p) (block_pages m) 0 (size_some m) in
      let v : (block_number p * block_pages m + 0) / block_pages (m + 1) ≡ block_number p / 512 =
      ap (λ k. (block_number p * block_pages m + 0) / k) y
      ∙ sym (div-div-eq-div-mul (block_number p * block_pages m + 0) (block_pages m) 512)
      ∙ ap (λ k. k / 512) u in
      ap (λ k. k / block_pages (m + 1))
      (let a : block_number p / 512 * block_pages (m + 1) ≡ block_number p / 512 * block_pages (m + 1) + 0 =
      omega arith in
      a)
      ∙ x ∙ sym v

module _ {A : Type 0} where
  pub table_at_in : (t : Tree A) (d low number : ℕ)
      → d ≡ suc low
      → number * block_pages d < input_pages t.geometry
      → table_at t d number ≡ table_in (levels_below t.geometry) t.table low (number * block_pages d)
  unfolding table_at table_under
  table_at_in t d low number z h =
      let h' : number * block_pages (suc low) < input_pages t.geometry = rw z at h in
      rw (z, less_test (number * block_pages (suc low)) (input_pages t.geometry) h') refl

  no_table : (t : Tree A) (number : ℕ) → table_at t 0 number ≡ None
  unfolding table_at table_under
  no_table t number = refl

  meaning_at : (t : Tree A) (q : ℕ)
      → q < input_pages t.geometry
      → meaning t q ≡ entry_at (levels_below t.geometry) t.table q
  unfolding meaning map_under
  meaning_at t q h = rw (less_test q (input_pages t.geometry) h) refl

  word_is : (t : Tree A) (p : List ℕ) → word_of t p ≡ word_at t.table p
  unfolding word_of
  word_is t p = refl

  -- a path of a tree, in a table with `m` levels below it
  module _ (t : Tree A) (m : ℕ) (p : List ℕ) (e : m + length p ≡ levels_below t.geometry + 1) (s : Small p) where
    page : ℕ → ℕ
    page i = block_number p * block_pages m + i

    -- the table that has the path's word
    above_at : 1 ≤ length p
        → table_at t (m + 1) (block_number p / 512) ≡ table_in (levels_below t.geometry) t.table m (page 0)
    unfolding page
    above_at u =
        table_at_in t (m + 1) m (block_number p / 512) (omega arith) (above_small (levels_below t.geometry) m p e s)
        ∙ table_same (levels_below t.geometry) m (block_number p / 512 * block_pages (m + 1))
        (block_number p * block_pages m + 0) t.table (omega arith) (above_same (levels_below t.geometry) m p e s)

    -- the table at the path's block
    here_at : (low : ℕ)
        → m ≡ suc low
        → table_at t m (block_number p) ≡ table_in (levels_below t.geometry) t.table low (page 0)
    unfolding page
    here_at low z =
        let x = page_small (levels_below t.geometry) m p e s 0 (size_some m) in
        let y : block_number p * block_pages m ≡ block_number p * block_pages m + 0 = omega arith in
        table_at_in t m low (block_number p) z (omega (arith, x))
        ∙ ap (λ q. table_in (levels_below t.geometry) t.table low q) y

    page_at : (i : ℕ) → i < block_pages m → meaning t (page i) ≡ entry_at (levels_below t.geometry) t.table (page i)
    unfolding page
    page_at i l = meaning_at t (block_number p * block_pages m + i) (page_small (levels_below t.geometry) m p e s i l)

    lead_at : (i : ℕ) → i < block_pages m → Leads (levels_below t.geometry) (page i) p
    unfolding page
    lead_at i l = page_leads (levels_below t.geometry) m p e s i l

    rest_at : (i : ℕ) → i < block_pages m → page i % block_pages m ≡ i
    unfolding page
    rest_at i l = mod-mul-add (block_number p) (block_pages m) i l

    -- a word gives each page of its block the entry of the first page, advanced
    given_at : (w i : ℕ)
        → IsPagesWord (levels_below t.geometry) m t.table p w
        → i < block_pages m
        → meaning t (page i) ≡ advance (entry_of_word (desc_of (level_at m) w)) i
    given_at w i h l =
        page_at i l ∙ h.gives (page i) (lead_at i l)
        ∙ ap (λ r. advance (entry_of_word (desc_of (level_at m) w)) r) (rest_at i l)

    first_at : (w : ℕ)
        → IsPagesWord (levels_below t.geometry) m t.table p w
        → meaning t (page 0) ≡ entry_of_word (desc_of (level_at m) w)
    first_at w h = given_at w 0 h (size_some m) ∙ advance_zero (entry_of_word (desc_of (level_at m) w)) 0 refl

    no_table_at : (w : ℕ)
        → IsPagesWord (levels_below t.geometry) m t.table p w
        → (d : ℕ)
        → d ≡ m
        → table_at t d (block_number p) ≡ None
    no_table_at w h zero z = no_table t (block_number p)
    no_table_at w h (suc low) z =
        ap (λ d. table_at t d (block_number p)) z ∙ here_at low (sym z)
        ∙ h.none (page 0) low (lead_at 0 (size_some m)) (omega arith)

    page_is : (i : ℕ) → page i ≡ first_page (m, block_number p) + i
    unfolding page
    page_is i = refl

    first_is : page 0 ≡ first_page (m, block_number p)
    first_is =
        page_is 0 ∙ (let x : first_page (m, block_number p) + 0 ≡ first_page (m, block_number p) = omega arith in x)

    only_word : (w : ℕ)
        → IsPagesWord (levels_below t.geometry) m t.table p w
        → IsOnlyWord m (meaning t (first_page (m, block_number p))) w
    only_word w h =
        let x : meaning t (first_page (m, block_number p)) ≡ entry_of_word (desc_of (level_at m) w) =
        ap (λ q. meaning t q) (sym first_is) ∙ first_at w h in
        record {
          small = h.formed.0;
          gives = sym x;
          alone = λ v r y. one_word (level_at m) w v h.formed.0 r h.formed.1 (y ∙ x);
        }

    one_run : (w : ℕ)
        → IsPagesWord (levels_below t.geometry) m t.table p w
        → (i : ℕ)
        → i < span (m, block_number p)
        → meaning t (first_page (m, block_number p) + i) ≡ advance (meaning t (first_page (m, block_number p))) i
    one_run w h i l =
        ap (λ q. meaning t q) (sym (page_is i)) ∙ given_at w i h l
        ∙ ap (λ x. advance x i) (sym (ap (λ q. meaning t q) (sym first_is) ∙ first_at w h))

    word_said : (w : ℕ)
        → IsWordIn (levels_below t.geometry) m t.table p w
        → IsWordOf (tree_of t) (m, block_number p) w × IsRunOrTable (tree_of t) (m, block_number p)
    word_said w h =
        elim h.is as (λ _. IsWordOf (tree_of t) (m, block_number p) w × IsRunOrTable (tree_of t) (m, block_number p)) [
          | inl k ↦
              let z : m ≡ suc (m - 1) = let u = k.above in omega arith in
              let f : table_at t m (block_number p) ≡ Some k.frame =
              here_at (m - 1) z ∙ k.stands (page 0) (lead_at 0 (size_some m)) in (
                if_some (table_at t m (block_number p)) _ _ k.frame f k.word,
                if_some (table_at t m (block_number p)) _ _ k.frame f tt,
              )
          | inr k ↦
              let f : table_at t m (block_number p) ≡ None = no_table_at w k m refl in (
                if_none (table_at t m (block_number p)) _ _ f (only_word w k),
                if_none (table_at t m (block_number p)) _ _ f (one_run w k),
              )
        ]

    word_stands : 1 ≤ length p
        → (w : ℕ)
        → IsWordIn (levels_below t.geometry) m t.table p w
        → IsSome (table_at t (m + 1) (block_number p / 512))
    word_stands u w h = is_value _ h.frame (above_at u ∙ h.stands (page 0) (lead_at 0 (size_some m)))

    -- where no word is, no table is that could have it
    none_stands : 1 ≤ length p
        → ((q : ℕ) → Leads (levels_below t.geometry) q p → table_in (levels_below t.geometry) t.table m q ≡ None)
        → table_at t (m + 1) (block_number p / 512) ≡ None
    none_stands u h = above_at u ∙ h (page 0) (lead_at 0 (size_some m))

  levels_on : Tree A → List ℕ → ℕ
  levels_on t p = levels_below t.geometry + 1 - length p

  what_is : (t : Tree A) (p : List ℕ)
      → 1 ≤ length p
      → length p ≤ levels_below t.geometry + 1
      → Small p
      → IsRead (levels_below t.geometry) (levels_on t p) t.table p (word_at t.table p)
  unfolding levels_on
  what_is t p u v s =
      read (levels_below t.geometry) (levels_below t.geometry + 1 - length p) t.table p t.shaped u
      (depth_is (levels_below t.geometry) (length p) v) s

  -- a word that was found
  found : (t : Tree A) (p : List ℕ) (w : ℕ)
      → word_at t.table p ≡ Some w
      → IsGood (levels_below t.geometry) p × IsWordIn (levels_below t.geometry) (levels_on t p) t.table p w
  unfolding IsRead
  found t p w e = let g =
      good_path (levels_below t.geometry) t.table p w (shaped_raw (levels_below t.geometry) t.table t.shaped) e in
      (g, rw e at (what_is t p g.0 g.1.0 g.1.1))

  said : (t : Tree A) (p : List ℕ) (w : ℕ)
      → word_at t.table p ≡ Some w
      → IsWordOf (tree_of t) (block_of t.geometry p) w × IsRunOrTable (tree_of t) (block_of t.geometry p)
  unfolding levels_on
  said t p w e =
      let x = found t p w e in
      word_said t (levels_below t.geometry + 1 - length p) p
      (depth_is (levels_below t.geometry) (length p) x.0.1.0) x.0.1.1 w x.1

  has : (t : Tree A) (p : List ℕ) (w : ℕ) → word_at t.table p ≡ Some w → HasWord t.geometry (tree_of t) p
  unfolding levels_on
  has t p w e =
      let x = found t p w e in
      record {
        some = x.0.0;
        no_deeper = x.0.1.0;
        indices = all_small p x.0.1.1;
        stands =
            λ _. word_stands t (levels_below t.geometry + 1 - length p) p
            (depth_is (levels_below t.geometry) (length p) x.0.1.0) x.0.1.1 x.0.0 w x.1;
      }

  missing : (t : Tree A) (p : List ℕ) → HasWord t.geometry (tree_of t) p → word_at t.table p ≡ None → ⊥
  unfolding levels_on IsRead
  missing t p h e =
      let s = small_all p h.indices in
      by_lt 1 (length p)
      (λ two.
      let r : IsRead (levels_below t.geometry) (levels_on t p) t.table p None =
      rw e at (what_is t p h.some h.no_deeper s) in
      let x : table_at t (levels_below t.geometry + 1 - length p + 1) (block_number p / 512) ≡ None =
      none_stands t (levels_below t.geometry + 1 - length p) p
      (depth_is (levels_below t.geometry) (length p) h.no_deeper) s h.some r in
      let y = h.stands (omega arith) in
      absurd (cc))
      (λ one. one_index t.table p h.some (omega arith) s e)

  -- where a tree has a word
  pub word_where : (t : Tree A) (p : List ℕ) → IsSome (word_of t p) ↔ HasWord t.geometry (tree_of t) p
  word_where t p = (
    λ h. let x = value_of (word_of t p) h in has t p x.0 (sym (word_is t p) ∙ x.1),
    λ h. by_value (word_of t p) (λ e. absurd (missing t p h (sym (word_is t p) ∙ e)))
        (λ w e. is_value (word_of t p) w e),
  )

  -- which word it is
  pub word_which : (t : Tree A) (p : List ℕ)
      → IfSome (word_of t p) (λ w. IsWordOf (tree_of t) (block_of t.geometry p) w)
  word_which t p =
      by_value (word_of t p) (λ e. if_none (word_of t p) _ _ e tt)
      (λ w e. if_some (word_of t p) _ _ w e (said t p w (sym (word_is t p) ∙ e)).0)

  -- the pages under it
  pub word_run : (t : Tree A) (p : List ℕ)
      → IfSome (word_of t p) (λ _. IsRunOrTable (tree_of t) (block_of t.geometry p))
  word_run t p =
      by_value (word_of t p) (λ e. if_none (word_of t p) _ _ e tt)
      (λ w e. if_some (word_of t p) _ _ w e (said t p w (sym (word_is t p) ∙ e)).1)
