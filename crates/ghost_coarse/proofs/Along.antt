-- Blocks along a run: each that it covers can be a word where the first and the last can.
use Rattle.std.proofs.Common.{◌≡◌, ℕ, zero, suc, ◌+◌, ◌-◌, ◌*◌, ◌/◌, ◌%◌, ◌^◌, ◌<◌, ◌≤◌, true, false, ◌==◌, nat_le, nat_lt, min, List, [], ◌∷◌, length, get_or, refl, sym, ap, subst, ◌∙◌, inl, inr, arith, mul-le-mul_left, mul-le-mul_right, Option, Some, None}
use Rattle.std.specs.Prelude.{◌&&◌, ◌⊎◌, ◌↔◌, is_some, not, All, Contains, MatchOption}
use Rattle.std.proofs.Math.Nat.{div-mul-le_self, lt-div-mul-add}
use Rattle.std.proofs.lemmas.Bool.Decides.{nat_tests}
use Rattle.std.proofs.lemmas.List.Elements.{All-head, All-tail}
use Rattle.page_state.specs.declared.entry.Entry.{Entry}
use Rattle.page_state.specs.declared.entry.Entry.TheVariants.{Unmapped, Malformed, Annotated, Leaf}
use Rattle.page_state.specs.declared.entry.Run.{Run}
use Rattle.page_state.specs.Blocks.{block_eq, fits_word, is_one_word}
use Rattle.page_state.specs.Entries.{advance, entry_of_target}
use Rattle.page_state.specs.Geometries.{block_pages}
use Rattle.page_state.specs.Map.{Map}
use Rattle.page_state.specs.Regions.{is_in_range}
use Rattle.page_state.specs.Runs.{entry_on, map_of, run_end, IsCoarsest}
use Rattle.page_state.specs.Trees.{Block, Tree}
use Rattle.page_state.proofs.Blocks.{and-join}
use Rattle.page_state.proofs.BlockTests.{block_eq-same}
use Rattle.page_state.proofs.Cases.{by_lt, by_test}
use Rattle.page_state.proofs.Common.{and-both, eq-same, eq-made, not-holds}
use Rattle.page_state.proofs.Entries.{advance-more}
use Rattle.page_state.proofs.Runs.{map_of-behind, map_of-first}
use Rattle.ghost_trees.specs.Parts.{BeginsFrom}
use Rattle.ghost_trees.proofs.Coarse.{begins_next}
use Rattle.ghost_trees.proofs.OneWords.{one_entry}
use Rattle.ghost_trees.proofs.Overlaid.{within_means}
use Rattle.ghost_coarse.proofs.Placed.{inside-at}
use Rattle.ghost_trees.specs.declared.tree.Table.{Table}
use Rattle.ghost_trees.specs.declared.tree.Tree.{Tree as TreeOfLists}
use Rattle.ghost_trees.specs.Trees.{table_of, tree_in_lists}
use Rattle.coarse_trees.specs.Coarsest.{IsCoarsest as IsCoarsestTree}
use Rattle.ghost_coarse.specs.Misfits.{AreInside, IsLacking}
use Rattle.ghost_coarse.specs.inner.Served.{AreServedOn, Goes, HasWanted, IsServed, IsUnserved, IsWanting, AreNeeded, HasAllWanted}

leaf-says : (d f l s : ℕ) → nat_le d 2 && nat_lt f l && f % s == 0 ≡ true → (d ≤ 2) × (f < l) × (f % s ≡ 0)
leaf-says d f l s h =
    let a = and-both (nat_le d 2 && nat_lt f l) (f % s == 0) h in
    let b = and-both (nat_le d 2) (nat_lt f l) a.0 in
    let x : nat_le d 2 ≡ true = b.0 in
    let y : nat_lt f l ≡ true = b.1 in
    (grind (arith, nat_tests), grind (arith, nat_tests), eq-same (f % s) 0 a.1)

leaf-said : (d f l s : ℕ) → d ≤ 2 → f < l → f % s ≡ 0 → nat_le d 2 && nat_lt f l && f % s == 0 ≡ true
leaf-said d f l s x y z =
    let a : nat_le d 2 ≡ true = grind (arith, nat_tests) in
    let b : nat_lt f l ≡ true = grind (arith, nat_tests) in
    and-join (nat_le d 2 && nat_lt f l) (f % s == 0) (and-join (nat_le d 2) (nat_lt f l) a b) (eq-made (f % s) 0 z)

-- frames of a run at two blocks and at one between
between : (d f a lo i hi : ℕ)
    → a ≤ lo * block_pages d
    → lo ≤ i
    → i ≤ hi
    → d ≤ 2
    → (f + (lo * block_pages d - a)) % block_pages d ≡ 0
    → f + (hi * block_pages d - a) < 2 ^ 36
    → (f + (i * block_pages d - a) < 2 ^ 36) × ((f + (i * block_pages d - a)) % block_pages d ≡ 0)
between zero f a lo i hi h p q k m l = (omega (arith, h, p, q, l), omega arith)
between (suc zero) f a lo i hi h p q k m l = (omega (arith, h, p, q, l), omega (arith, h, p, m))
between (suc (suc zero)) f a lo i hi h p q k m l = (omega (arith, h, p, q, l), omega (arith, h, p, m))
between (suc (suc (suc d))) f a lo i hi h p q k m l = absurd (omega (arith, k))

-- where a word can say the first and the last of blocks along a run, one can say each
pub words-between : (d a : ℕ) (x : Entry) (lo hi : ℕ)
    → a ≤ lo * block_pages d
    → fits_word d (advance x (lo * block_pages d - a)) ≡ true
    → fits_word d (advance x (hi * block_pages d - a)) ≡ true
    → (i : ℕ)
    → lo ≤ i
    → i ≤ hi
    → fits_word d (advance x (i * block_pages d - a)) ≡ true
words-between d a Unmapped lo hi h s t i p q = s
words-between d a Malformed lo hi h s t i p q = s
words-between d a (Annotated o) lo hi h s t i p q = s
words-between d a (Leaf f r k w) lo hi h s t i p q =
    let x = leaf-says d (f.0 + (lo * block_pages d - a)) (2 ^ 36) (block_pages d) s in
    let y = leaf-says d (f.0 + (hi * block_pages d - a)) (2 ^ 36) (block_pages d) t in
    let z = between d f.0 a lo i hi h p q x.0 x.2 y.1 in
    leaf-said d (f.0 + (i * block_pages d - a)) (2 ^ 36) (block_pages d) x.0 z.0 z.1

-- a block that a run covers is one word where a word can say its first page
pub word-covered : (m : Map) (r : Run) (d i : ℕ)
    → Goes m r
    → r.pages.first.0 ≤ i * block_pages d
    → (i + 1) * block_pages d ≤ run_end r
    → fits_word d (entry_on r (i * block_pages d)) ≡ true
    → is_one_word m (d, i) ≡ true
word-covered m r d i g low high f =
    let e : (i + 1) * block_pages d ≡ i * block_pages d + block_pages d = omega arith in
    sym (one_entry m (d, i) (entry_on r (i * block_pages d)) (λ k l.
    let n : i * block_pages d + k - r.pages.first.0 ≡ (i * block_pages d - r.pages.first.0) + k = omega (arith, low) in
    g (i * block_pages d + k) (omega (arith, low)) (omega (arith, l, e, high))
    ∙ ap (advance (entry_of_target r.target)) n
    ∙ sym (advance-more (entry_of_target r.target) (i * block_pages d - r.pages.first.0) k)))
    ∙ f

-- the block of a page
pub block-of : (i s k : ℕ) → k < s → (i * s + k) / s ≡ i
block-of i s k h =
    let q = (i * s + k) / s in
    let some : 0 < s = omega (arith, h) in
    let x : i * s + k < q * s + s = lt-div-mul-add some in
    let z : q * s ≤ i * s + k = div-mul-le_self (i * s + k) s in
    by_lt q i
    (λ l. let l1 : q + 1 ≤ i = omega (arith, l) in
    let y : (q + 1) * s ≤ i * s = mul-le-mul_right s l1 in absurd (omega (arith, x, y)))
    (λ l. by_lt i q
    (λ m. let m1 : i + 1 ≤ q = omega (arith, m) in
    let y : (i + 1) * s ≤ q * s = mul-le-mul_right s m1 in absurd (omega (arith, z, y, h)))
    (λ m. omega (arith, l, m)))

-- where a word can say the first and the last of blocks along a run, one can say each
pub words_along : (r : Run) (d lo hi : ℕ)
    → r.pages.first.0 ≤ lo * block_pages d
    → fits_word d (entry_on r (lo * block_pages d)) ≡ true
    → fits_word d (entry_on r (hi * block_pages d)) ≡ true
    → (i : ℕ)
    → lo ≤ i
    → i ≤ hi
    → fits_word d (entry_on r (i * block_pages d)) ≡ true
words_along r d lo hi h s t i p q = words-between d r.pages.first.0 (entry_of_target r.target) lo hi h s t i p q

-- blocks between two are covered by the run
pub between_served : (m : Map) (indexes : List ℕ) (r : Run) (d low high : ℕ)
    → Goes m r
    → r.pages.first.0 ≤ (low + 1) * block_pages d
    → high * block_pages d < run_end r
    → ((i : ℕ) → low + 1 ≤ i → i ≤ high - 1 → fits_word d (entry_on r (i * block_pages d)) ≡ true)
    → (i : ℕ)
    → low < i
    → i < high
    → IsServed m indexes d i
between_served m indexes r d low high g a b w i p q =
    let s = block_pages d in
    let l1 : low + 1 ≤ i = omega (arith, p) in
    let l2 : i + 1 ≤ high = omega (arith, q) in
    let x : (low + 1) * s ≤ i * s = mul-le-mul_right s l1 in
    let y : (i + 1) * s ≤ high * s = mul-le-mul_right s l2 in
    inr (word-covered m r d i g (omega (arith, a, x)) (omega (arith, b, y)) (w i l1 (omega (arith, q))))

-- quotients grow
div-grows : (a b s : ℕ) → 0 < s → a ≤ b → a / s ≤ b / s
div-grows a b s some h = by_lt (b / s) (a / s)
    (λ l. let l1 : b / s + 1 ≤ a / s = omega (arith, l) in
    let x : b < b / s * s + s = lt-div-mul-add some in
    let z : a / s * s ≤ a = div-mul-le_self a s in
    let y : (b / s + 1) * s ≤ a / s * s = mul-le-mul_right s l1 in
    absurd (omega (arith, x, y, z, h)))
    (λ l. l)

-- the last block that a run meets
pub record IsLast (first after size count last : ℕ) : Type 0 where
  pub from : first / size ≤ last
  pub below : last < count
  pub end : last * size < after
  pub small : last < 2 ^ 63

pub last_of : (first n size count : ℕ)
    → first + n ≤ 2 ^ 63
    → 0 < n
    → 0 < size
    → first / size < count
    → IsLast first (first + n) size count (min ((first + n - 1) / size) (count - 1))
last_of first n size count low some pos less =
    let e = first + n - 1 in
    let grow : first / size ≤ e / size = div-grows first e size pos (omega (arith, some)) in
    let few : e / size * size ≤ e = div-mul-le_self e size in
    let q : min (e / size) (count - 1) ≤ e / size = omega arith in
    let more : min (e / size) (count - 1) * size ≤ e / size * size = mul-le-mul_right size q in
    let one : 1 ≤ size = pos in
    let up : e / size * 1 ≤ e / size * size = mul-le-mul_left (e / size) one in
    record {
      from = omega (arith, grow, less);
      below = omega (arith, less);
      end = omega (arith, few, more, some);
      small = omega (arith, up, few, q, low, some);
    }

-- what is told of both ends and between them is told of the run
pub ends_joined : (m : Map) (indexes : List ℕ) (r : Run) (d count low high : ℕ) (o : Option ℕ)
    → 0 < block_pages d
    → low ≡ r.pages.first.0 / block_pages d
    → high ≡ min ((run_end r - 1) / block_pages d) (count - 1)
    → high < count
    → IsServed m indexes d low → IsServed m indexes d high
    → MatchOption o ((i : ℕ) → low < i → i < high → IsServed m indexes d i) (IsUnserved m indexes d high)
    → MatchOption o (AreServedOn m indexes d count r) (IsUnserved m indexes d count)
ends_joined m indexes r d count low high (Some i) some a b less s t h = let x = h.before in
    record { before = omega (arith, x, less); neither = h.neither }
ends_joined m indexes r d count low high None some a b less s t h = λ p from to below.
    let q = p / block_pages d in
    let x : r.pages.first.0 / block_pages d ≤ q = div-grows r.pages.first.0 p (block_pages d) some from in
    let y : q ≤ (run_end r - 1) / block_pages d =
    div-grows p (run_end r - 1) (block_pages d) some (omega (arith, to)) in
    by_lt low q
    (λ l. by_lt q high (λ k. h q l k)
    (λ k. let e : high ≡ q = omega (arith, k, b, y, below) in subst (IsServed m indexes d) e t))
    (λ l. let e : low ≡ q = omega (arith, l, a, x) in subst (IsServed m indexes d) e s)

-- the runs of a list go on in its map (by `Goes` of each), so a page of a block is served, or the block is empty
module _ (m : Map) (indexes : List ℕ) (d count i : ℕ) (less : i < count) where
  page-served : (rs : List Run)
      → All (AreServedOn m indexes d count) rs
      → (k : ℕ)
      → k < block_pages d
      → (IsServed m indexes d i) ⊎ (map_of rs (i * block_pages d + k) ≡ Unmapped)
  page-served [] h k l = inr refl
  page-served (r ∷ rs) h k l = by_test (is_in_range r.pages (i * block_pages d + k))
      (λ t. let w = within_means r.pages.first.0 r.pages.count (i * block_pages d + k) t in
      let e = block-of i (block_pages d) k l in
      let s = All-head (AreServedOn m indexes d count) r rs h (i * block_pages d + k) w.0 w.1 in
      inl (subst (IsServed m indexes d) e (s (rw e less))))
      (λ t. rw t (page-served rs (All-tail (AreServedOn m indexes d count) r rs h) k l))

  pages-served : (rs : List Run)
      → All (AreServedOn m indexes d count) rs
      → (n : ℕ)
      → n ≤ block_pages d
      → (IsServed m indexes d i) ⊎ ((k : ℕ) → k < n → map_of rs (i * block_pages d + k) ≡ Unmapped)
  pages-served rs h zero l = inr (λ k b. absurd (omega (arith, b)))
  pages-served rs h (suc n) l = elim (page-served rs h n (omega (arith, l))) [
    | inl s ↦ inl s
    | inr e ↦ elim (pages-served rs h n (omega (arith, l))) [
      | inl s ↦ inl s
      | inr f ↦ inr
          (λ k b. by_lt k n (λ x. f k x)
          (λ x. let y : k ≡ n = omega (arith, b, x) in
          subst (λ (j : ℕ). map_of rs (i * block_pages d + j) ≡ Unmapped) (sym y) e))
    ]
  ]

-- where the runs' pages are served each block is
pub each-served : (rs : List Run) (indexes : List ℕ) (d count i : ℕ)
    → i < count
    → All (AreServedOn (map_of rs) indexes d count) rs
    → IsServed (map_of rs) indexes d i
each-served rs indexes d count i less h =
    elim (pages-served (map_of rs) indexes d count i less rs h (block_pages d) (omega arith)) [
      | inl s ↦ s
      | inr e ↦ inr (sym (one_entry (map_of rs) (d, i) Unmapped e))
    ]

-- runs of a coarsest list

run-at : (rs : List Run) (i : ℕ) (d : Run)
    → IsCoarsest rs
    → i < length rs
    → (0 < (get_or rs i d).pages.count) × Goes (map_of rs) (get_or rs i d)
run-at [] i d c less = absurd (omega (arith, less))
run-at (r ∷ rs) zero d c less = (c.0, λ p a b. map_of-first r rs p a b)
run-at (r ∷ rs) (suc i) d c less =
    let more = run-at rs i d c.2 (omega (arith, less)) in (
      more.0,
      λ p a b. map_of-behind r rs p
          (omega (arith, begins-at rs (run_end r) i d c.2 (begins_next r rs c.1) (omega (arith, less)), a))
          ∙ more.1 p a b,
    )
  where
    begins-at : (rs : List Run) (low i : ℕ) (d : Run)
        → IsCoarsest rs
        → BeginsFrom low rs
        → i < length rs
        → low ≤ (get_or rs i d).pages.first.0
    begins-at [] low i d c b less = absurd (omega (arith, less))
    begins-at (r ∷ rs) low zero d c b less = b
    begins-at (r ∷ rs) low (suc i) d c b less = let more =
        begins-at rs (run_end r) i d c.2 (begins_next r rs c.1) (omega (arith, less)) in
        omega (arith, more, b)

pub run-some : (rs : List Run) (i : ℕ) (d : Run) → IsCoarsest rs → i < length rs → 0 < (get_or rs i d).pages.count
run-some rs i d c less = (run-at rs i d c less).0

pub run-goes : (rs : List Run) (i : ℕ) (d : Run) → IsCoarsest rs → i < length rs → Goes (map_of rs) (get_or rs i d)
run-goes rs i d c less = (run-at rs i d c less).1

-- what is served by indexes is so by the tree
pub in-tree : (t : Tree) (indexes : List ℕ) (d count : ℕ) (o : Option ℕ)
    → ((i : ℕ) → Contains indexes i ↔ (is_some (t.table (d, i)) ≡ true))
    → MatchOption o ((i : ℕ) → i < count → IsServed t.map indexes d i) (IsUnserved t.map indexes d count)
    → MatchOption o ((i : ℕ) → i < count → HasWanted t (d, i)) (λ i. (i < count) × IsWanting t (d, i))
in-tree t indexes d count None are h =
    λ i less no. elim (h i less) [ inl k ↦ (are i).0 k | inr w ↦ let bad : true ≡ false = sym w ∙ no in absurd (cc) ]
in-tree t indexes d count (Some i) are h = (
  h.before,
  record {
    none = not-holds (is_some (t.table (d, i))) (λ k. h.neither (inl ((are i).1 k)));
    no_word = not-holds (is_one_word t.map (d, i)) (λ k. h.neither (inr k));
  },
)

pub in-tree-by : (t : TreeOfLists) (ts : List Table) (rs : List Run) (is js : List ℕ) (d count : ℕ) (o : Option ℕ)
    → ts ≡ t.tables.items
    → rs ≡ t.runs.items
    → js ≡ is
    → ((i : ℕ) → Contains is i ↔ (is_some (table_of ts (d, i)) ≡ true))
    → MatchOption o ((i : ℕ) → i < count → IsServed (map_of rs) js d i) (IsUnserved (map_of rs) js d count)
    → MatchOption o ((i : ℕ) → i < count → HasWanted (tree_in_lists t) (d, i))
    (λ i. (i < count) × IsWanting (tree_in_lists t) (d, i))
in-tree-by t ts rs is js d count o a b e are h =
    in-tree (tree_in_lists t) is d count o
    (subst (λ (ts : List Table). (i : ℕ) → Contains is i ↔ (is_some (table_of ts (d, i)) ≡ true)) a are)
    (subst
    (λ (js : List ℕ). MatchOption o ((i : ℕ) → i < count → IsServed (map_of t.runs.items) js d i)
    (IsUnserved (map_of t.runs.items) js d count)) e
    (subst
    (λ (rs : List Run). MatchOption o ((i : ℕ) → i < count → IsServed (map_of rs) js d i)
    (IsUnserved (map_of rs) js d count)) b h))

-- a tree whose tables are all needed, and which lacks none, is the coarsest of its map

needed-none : (depth : ℕ) (m : Map) (ts : List Table) (b : Block)
    → AreNeeded depth m ts
    → b.0 ≤ depth
    → is_one_word m b ≡ true
    → is_some (table_of ts b) ≡ false
needed-none depth m [] b h k w = refl
needed-none depth m (t ∷ ts) b h k w = by_test (block_eq t.block b)
    (λ e. let same : t.block ≡ b = block_eq-same t.block b e in
    let first = All-head (λ (t : Table). t.block.0 ≤ depth → is_one_word m t.block ≡ false) t ts h in
    let no : is_one_word m b ≡ false = subst (λ (x : Block). x.0 ≤ depth → is_one_word m x ≡ false) same first k in
    let bad : true ≡ false = sym w ∙ no in absurd (cc))
    (λ e. rw e
    (needed-none depth m ts b
    (All-tail (λ (t : Table). t.block.0 ≤ depth → is_one_word m t.block ≡ false) t ts h) k w))

is-coarsest : (depth : ℕ) (t : TreeOfLists) (o : Option Block)
    → AreInside depth t.tables.items
    → AreNeeded depth (map_of t.runs.items) t.tables.items
    → o ≡ None
    → MatchOption o (HasAllWanted depth (tree_in_lists t)) (IsLacking depth (tree_in_lists t))
    → IsCoarsestTree depth (tree_in_lists t)
is-coarsest depth t (Some b) i n e h = absurd (cc)
is-coarsest depth t None i n e h = record {
  inside = λ b f k. inside-at depth t.tables.items b f i k;
  below = λ b k l. by_test (is_one_word (map_of t.runs.items) b)
      (λ w. needed-none depth (map_of t.runs.items) t.tables.items b n l w ∙ sym (ap not w))
      (λ w. h b k l w ∙ sym (ap not w));
}

pub is-coarsest-by : (depth : ℕ) (t : TreeOfLists) (rs : List Run) (ts : List Table) (o : Option Block)
    → AreInside depth t.tables.items
    → rs ≡ t.runs.items
    → ts ≡ t.tables.items
    → AreNeeded depth (map_of rs) ts
    → o ≡ None
    → MatchOption o (HasAllWanted depth (tree_in_lists t)) (IsLacking depth (tree_in_lists t))
    → IsCoarsestTree depth (tree_in_lists t)
is-coarsest-by depth t rs ts o i a b n e h =
    is-coarsest depth t o i
    (subst (λ (rs : List Run). AreNeeded depth (map_of rs) t.tables.items) a
    (subst (AreNeeded depth (map_of rs)) b n)) e h

-- what is told where nothing is found
pub told-none : {X : Type 0} (P : Type 0) (Q : X → Type 0) (o : Option X) → o ≡ None → MatchOption o P Q → P
told-none P Q None e h = h
told-none P Q (Some x) e h = absurd (cc)

-- blocks below the root, depth by depth

pub one-depth-more : (depth : ℕ) (t : Tree) (d : ℕ)
    → 1 ≤ d
    → ((e i : ℕ) → 1 ≤ e → e < d → i < block_pages (depth + 1 - e) → HasWanted t (e, i))
    → ((i : ℕ) → i < block_pages (depth + 1 - d) → HasWanted t (d, i))
    → (e i : ℕ)
    → 1 ≤ e
    → e < d + 1
    → i < block_pages (depth + 1 - e)
    → HasWanted t (e, i)
one-depth-more depth t d some h k e i low high less = by_lt e d (λ l. h e i low l less) (λ l.
    let same : d ≡ e = omega (arith, l, high) in
    subst (λ (n : ℕ). i < block_pages (depth + 1 - n) → HasWanted t (n, i)) same (k i) less)

pub all-depths : (depth n : ℕ) (t : Tree)
    → depth + 1 ≤ n
    → ((e i : ℕ) → 1 ≤ e → e < n → i < block_pages (depth + 1 - e) → HasWanted t (e, i))
    → HasAllWanted depth t
all-depths depth n t far h b i k = h b.0 b.1 i.some (omega (arith, k, far)) i.index
