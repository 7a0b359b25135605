-- The first difference of two pools, and of two trees' tables.
use Rattle.std.proofs.Common.{◌≡◌, ℕ, zero, suc, ◌+◌, ◌<◌, ◌≤◌, true, false, Bool, List, [], ◌∷◌, Option, Some, None, length, get_or, nat_lt, ◌==◌, is_some, refl, sym, ap, subst, ◌∙◌, arith, inl, inr}
use Rattle.std.specs.Prelude.{◌⊎◌, ◌&&◌, ◌||◌, MatchOption}
use Rattle.std.proofs.lemmas.Bool.Decides.{nat_tests}
use Rattle.std.proofs.lemmas.List.{get_or-map}
use mathlib.Core.Path.{fun_ext}
use Rattle.page_state.specs.Blocks.{block_eq}
use Rattle.page_state.specs.Trees.{Block, Pool, no_tree}
use Rattle.page_state.proofs.BlockTests.{block_eq-same}
use Rattle.page_state.proofs.Cases.{by_lt, by_test}
use Rattle.page_state.proofs.Common.{and-both, eq-made, eq-same}
use Rattle.reference_model.specs.model.State.{Guest, Shared, no_guest}
use Rattle.ghost_spec.specs.declared.parts.GhostGuest.{GhostGuest}
use Rattle.ghost_spec.specs.States.{guest_in}
use Rattle.ghost_spec.specs.Used.{guests_in}
use Rattle.ghost_trees.specs.declared.tree.Table.{Table as TableOf}
use Rattle.ghost_trees.specs.Trees.{table_of}
use Rattle.ghost_judge.specs.declared.disagreement.PartDifference.{PartDifference}
use Rattle.ghost_judge.specs.declared.disagreement.PartDifference.TheVariants.{Free}
use Rattle.ghost_judge.specs.declared.disagreement.TreeOf.TheVariants.{Host, Hyp, Guest as GuestOf}
use Rattle.ghost_judge.specs.Apart.{IsFirstApart}
use Rattle.ghost_judge.specs.PartDifferences.{frame_at, head_of, without_map, IsFirstBlock, IsFirstOfGuest, IsFirstOfShared, IsSamePool}
use Rattle.ghost_judge.specs.inner.Covered.{comes_first, precedes, AreCovered, CoversMore, IsCovered, IsUnlike}
use Rattle.ghost_judge.specs.inner.Pooled.{IsFoundInFrames, IsFoundInTables}

-- frames, place by place

no-some : (f : ℕ) → None ≡ Some f → ⊥
no-some f e = cc

one-frame : (f g : ℕ) → Some f ≡ Some g → f ≡ g
one-frame f g e = cc

frames_same : (p q : Pool) → ((i : ℕ) → frame_at p i ≡ frame_at q i) → p ≡ q
frames_same [] [] h = refl
frames_same [] (y ∷ ys) h = absurd (no-some y (h 0))
frames_same (x ∷ xs) [] h = absurd (no-some x (sym (h 0)))
frames_same (x ∷ xs) (y ∷ ys) h =
    ap (λ f. f ∷ xs) (one-frame x y (h 0)) ∙ ap (λ fs. y ∷ fs) (frames_same xs ys (λ i. h (suc i)))

pub frame_found : (xs : Pool) (i x : ℕ) → i < length xs → x ≡ get_or xs i x → Some x ≡ frame_at xs i
frame_found xs i x l e = ap Some e ∙ sym (get_or-map Some xs i x None l)

pub no_frame : (xs : Pool) (i : ℕ) → length xs ≤ i → None ≡ frame_at xs i
no_frame [] i h = refl
no_frame (x ∷ xs) zero h = absurd (omega arith)
no_frame (x ∷ xs) (suc i) h = no_frame xs i (omega arith)

pub in_frames : (p q : Pool) (x y : Option ℕ) (n : ℕ)
    → x ≡ frame_at p n
    → y ≡ frame_at q n
    → IsFirstApart (frame_at p) (frame_at q) n
    → IsFoundInFrames p q (Some (Free x y))
in_frames p q x y n e g a =
    (x, y, refl, record { place = n; differ = record { first = a; kept_is = e; walked_is = g } })

pub same_frames : (p q : Pool) → ((i : ℕ) → frame_at p i ≡ frame_at q i) → IsFoundInFrames p q None
same_frames p q h = frames_same p q h

-- blocks in order

lt-true : (a b : ℕ) → a < b → nat_lt a b ≡ true
lt-true a b l = grind (arith, nat_tests)

lt-is : (a b : ℕ) → nat_lt a b ≡ true → a < b
lt-is a b h = grind (arith, nat_tests)

abbrev Precedes : Block → Block → Type 0
Precedes a b = (a.0 < b.0) ⊎ ((a.0 ≡ b.0) × (a.1 < b.1))

precedes-is : (a b : Block) → precedes a b ≡ true → Precedes a b
precedes-is a b h = by_test (nat_lt a.0 b.0)
    (λ t. inl (lt-is a.0 b.0 t))
    (λ f.
    let rest : (a.0 == b.0) && nat_lt a.1 b.1 ≡ true =
    sym (ap (λ x. x || ((a.0 == b.0) && nat_lt a.1 b.1)) f) ∙ h in
    let both = and-both (a.0 == b.0) (nat_lt a.1 b.1) rest in
    inr (eq-same a.0 b.0 both.0, lt-is a.1 b.1 both.1))

precedes-true : (a b : Block) → Precedes a b → precedes a b ≡ true
precedes-true a b (inl l) = ap (λ x. x || ((a.0 == b.0) && nat_lt a.1 b.1)) (lt-true a.0 b.0 l)
precedes-true a b (inr p) = by_test (nat_lt a.0 b.0)
    (λ t. ap (λ x. x || ((a.0 == b.0) && nat_lt a.1 b.1)) t)
    (λ f.
    ap (λ x. x || ((a.0 == b.0) && nat_lt a.1 b.1)) f
    ∙ ap (λ x. x && nat_lt a.1 b.1) (eq-made a.0 b.0 p.0) ∙ lt-true a.1 b.1 p.1)

precedes-next : (a b c : Block) → Precedes a b → Precedes b c → Precedes a c
precedes-next a b c (inl l) (inl k) = inl (omega arith)
precedes-next a b c (inl l) (inr k) = inl (omega (arith, k.0))
precedes-next a b c (inr l) (inl k) = inl (omega (arith, l.0))
precedes-next a b c (inr l) (inr k) = inr (l.0 ∙ k.0, omega (arith, l.1, k.1))

not-self : (a : Block) → Precedes a a → ⊥
not-self a (inl l) = omega arith
not-self a (inr p) = omega (arith, p.1)

both-tests : (b : Bool) → b ≡ true → b ≡ false → ⊥
both-tests b e f = let g : true ≡ false = sym e ∙ f in cc

isnt-first : (a b : Block) → (Precedes a b → ⊥) → precedes a b ≡ false
isnt-first a b h = by_test (precedes a b) (λ t. absurd (h (precedes-is a b t))) (λ f. f)

-- a block is covered by itself, and by one that comes before what covered it

pub self_covered : (b : Block) → comes_first b (Some b) ≡ false
self_covered b = isnt-first b b (not-self b)

pub covers_more : (found : Option Block) (b : Block) → comes_first b found ≡ true → CoversMore found (Some b)
covers_more None b t c f = absurd (both-tests true refl f)
covers_more (Some o) b t c f =
    isnt-first c b
    (λ p. both-tests (precedes c o) (precedes-true c o (precedes-next c b o p (precedes-is b o t))) f)

pub covered_next : (f g : Block → Option ℕ) (old new : Option Block) (b : Block)
    → CoversMore old new
    → IsCovered f g old b
    → IsCovered f g new b
covered_next f g old new b m (inl e) = inl e
covered_next f g old new b m (inr n) = inr (m b n)

pub covered_one_more : (f g : Block → Option ℕ) (old new : Option Block) (ts : List TableOf) (i : ℕ) (t : TableOf)
    → CoversMore old new
    → AreCovered f g old ts i
    → IsCovered f g new (get_or ts i t).block
    → i < length ts
    → AreCovered f g new ts (i + 1)
covered_one_more f g old new ts i t m h here l k d r =
    by_lt k i (λ s. covered_next f g old new (get_or ts k d).block m (h k d s))
    (λ s. let e : i ≡ k = omega arith in
    subst (λ n. IsCovered f g new (get_or ts n d).block) e
    (subst (λ (x : TableOf). IsCovered f g new x.block) (same_place ts i t d l) here))
  where
    same_place : (ts : List TableOf) (i : ℕ) (t d : TableOf) → i < length ts → get_or ts i t ≡ get_or ts i d
    same_place [] i t d l = absurd (omega arith)
    same_place (x ∷ ts) zero t d l = refl
    same_place (x ∷ ts) (suc i) t d l = same_place ts i t d (omega arith)

-- a block with a frame is that of a table of the list

at_table : (ts : List TableOf) (b : Block) (f : ℕ)
    → table_of ts b ≡ Some f
    → (k : ℕ) × (k < length ts) × ((t : TableOf) → (get_or ts k t).block ≡ b)
at_table [] b f h = absurd (no-some f h)
at_table (t ∷ ts) b f h = by_test (block_eq t.block b)
    (λ e. (0, omega arith, λ d. block_eq-same t.block b e))
    (λ e. let r = at_table ts b f (rw e at h) in (suc r.0, omega (arith, r.1), λ d. r.2 d))

abbrev blank_table : TableOf
blank_table = record { block = (0, 0); frame = 0 }

covered_all : (a b : List TableOf) (found : Option Block)
    → AreCovered (table_of a) (table_of b) found a (length a)
    → AreCovered (table_of a) (table_of b) found b (length b)
    → (c : Block)
    → IsCovered (table_of a) (table_of b) found c
covered_all a b found h k c = go (table_of a c) (table_of b c) refl refl
  where
    go : (p q : Option ℕ) → table_of a c ≡ p → table_of b c ≡ q → IsCovered (table_of a) (table_of b) found c
    go (Some f) q e g =
        let r = at_table a c f e in
        subst (IsCovered (table_of a) (table_of b) found) (r.2 blank_table) (h r.0 blank_table r.1)
    go None (Some f) e g =
        let r = at_table b c f g in
        subst (IsCovered (table_of a) (table_of b) found) (r.2 blank_table) (k r.0 blank_table r.1)
    go None None e g = inl (e ∙ sym g)

tables_found : (f g : Block → Option ℕ) (found : Option Block)
    → IsUnlike f g found
    → ((c : Block) → IsCovered f g found c)
    → MatchOption found (f ≡ g) (IsFirstBlock f g)
tables_found f g None u h = fun_ext (λ c. same c (h c))
  where
    same : (c : Block) → IsCovered f g None c → f c ≡ g c
    same c (inl e) = e
    same c (inr n) = absurd (both-tests true refl n)
tables_found f g (Some b) u h = record {
  lower = λ d l. fun_ext (λ i. same (d, i) (inl l) (h (d, i)));
  first = record { differ = u; before = λ i l. same (b.0, i) (inr (refl, l)) (h (b.0, i)) };
}
  where
    same : (c : Block) → Precedes c b → IsCovered f g (Some b) c → f c ≡ g c
    same c p (inl e) = e
    same c p (inr n) = absurd (both-tests (precedes c b) (precedes-true c b p) n)

pub tables_apart : (a b : List TableOf) (old found : Option Block)
    → AreCovered (table_of a) (table_of b) old a (length a)
    → CoversMore old found
    → IsUnlike (table_of a) (table_of b) found
    → AreCovered (table_of a) (table_of b) found b (length b)
    → MatchOption found (table_of a ≡ table_of b) (IsFirstBlock (table_of a) (table_of b))
tables_apart a b old found h m u k =
    tables_found (table_of a) (table_of b) found u
    (covered_all a b found
    (λ i t l. covered_next (table_of a) (table_of b) old found (get_or a i t).block m (h i t l)) k)

-- two Shared parts

module _ (s t : Shared) where
  abbrev IsShared : Option PartDifference → Type 0
  IsShared o = MatchOption o (IsSamePool s t) (IsFirstOfShared s t)

  pub shared_free : (o : Option PartDifference) → is_some o ≡ true → IsFoundInFrames s.free t.free o → IsShared o
  shared_free None h x = cc
  shared_free (Some d) h x = subst (IsFirstOfShared s t) (sym x.2) x.3

  pub shared_host : (o : Option PartDifference)
      → s.free ≡ t.free
      → is_some o ≡ true
      → IsFoundInTables Host s.host.table t.host.table o
      → IsShared o
  shared_host None e h x = cc
  shared_host (Some d) e h x = subst (IsFirstOfShared s t) (sym x.3) (e, x.4)

  pub shared_hyp : (o : Option PartDifference)
      → s.free ≡ t.free
      → s.host.table ≡ t.host.table
      → IsFoundInTables Hyp s.hyp.table t.hyp.table o
      → IsShared o
  shared_hyp None e f x = record { free = e; host = f; hyp = x }
  shared_hyp (Some d) e f x = subst (IsFirstOfShared s t) (sym x.3) (e, f, x.4)

pub no_frames_found : (p q : Pool) (o : Option PartDifference)
    → is_some o ≡ false
    → IsFoundInFrames p q o
    → p ≡ q
no_frames_found p q None h x = x
no_frames_found p q (Some d) h x = cc

pub no_tables_found : (tree : _) (f g : Block → Option ℕ) (o : Option PartDifference)
    → is_some o ≡ false
    → IsFoundInTables tree f g o
    → f ≡ g
no_tables_found tree f g None h x = x
no_tables_found tree f g (Some d) h x = cc

-- two guests

guest_from : (g h : Guest)
    → head_of g ≡ head_of h
    → g.tree.table ≡ h.tree.table
    → g.free ≡ h.free
    → without_map g ≡ without_map h
guest_from g h e t f =
    ap
    (λ (x : Guest). record x { tree = record { map = no_tree.map; table = g.tree.table }; free = g.free }) e
    ∙ ap (λ y. record h { tree = record { map = no_tree.map; table = y }; free = g.free }) t
    ∙ ap (λ y. record h { tree = record { map = no_tree.map; table = h.tree.table }; free = y }) f

pub heads_apart : (g h : Guest) → (head_of g ≡ head_of h → ⊥) → without_map g ≡ without_map h → ⊥
heads_apart g h d e = d (ap (λ (x : Guest). record x { tree = no_tree; free = [] }) e)

module _ (slot : ℕ) (g h : Guest) (heads : head_of g ≡ head_of h) where
  abbrev IsGuest : Option PartDifference → Type 0
  IsGuest o = MatchOption o (without_map g ≡ without_map h) (IsFirstOfGuest slot g h)

  pub guest_tables : (o : Option PartDifference)
      → is_some o ≡ true
      → IsFoundInTables (GuestOf slot) g.tree.table h.tree.table o
      → IsGuest o
  guest_tables None k x = cc
  guest_tables (Some d) k x =
      subst (IsFirstOfGuest slot g h) (sym x.3) (refl, heads, x.4)

  pub guest_free : (o : Option PartDifference)
      → g.tree.table ≡ h.tree.table
      → IsFoundInFrames g.free h.free o
      → IsGuest o
  guest_free None t x = guest_from g h heads t x
  guest_free (Some d) t x = subst (IsFirstOfGuest slot g h) (sym x.2) (heads, t, x.3)

pub guest_there : (gs : List GhostGuest) (i : ℕ) (x : GhostGuest)
    → i < length gs
    → x ≡ get_or gs i x
    → guest_in x ≡ guests_in gs i
guest_there gs i x l e = ap guest_in e ∙ sym (get_or-map guest_in gs i x no_guest l)
