-- Which blocks a list of those that pass a test takes tables from, and gives tables to.
use Rattle.std.proofs.Common.{◌≡◌, ℕ, zero, suc, ◌+◌, ◌≤◌, ◌<◌, refl, sym, ap, arith, ◌∙◌, cond, Bool, true, false, not, ◌&&◌, ◌||◌, ◌==◌, is_some, Option, Some, None, List, [], ◌∷◌, length, filter, Contains, slice_index_or}
use Rattle.page_state.specs.Trees.{Block}
use Rattle.page_state.specs.Blocks.{block_eq}
use Rattle.page_state.specs.Tables.{placed, cleared}
use Rattle.page_state.proofs.BlockTests.{block_eq-same}
use Rattle.page_state.proofs.Blocks.{and-join}
use Rattle.page_state.proofs.Cases.{by_test}
use Rattle.page_state.proofs.Common.{eq-self}

-- a block is one of a list
abbrev pub has : Block → List Block → Bool
has b [] = false
has b (a ∷ bs) = block_eq a b || has b bs

pub block-self : (b : Block) → block_eq b b ≡ true
block-self b = and-join (b.0 == b.0) (b.1 == b.1) (eq-self b.0) (eq-self b.1)

same-has : (a b : Block) (bs : List Block) → a ≡ b → has b (a ∷ bs) ≡ true
same-has a b bs e = let h : block_eq a b ≡ true = ap (λ c. block_eq a c) (sym e) ∙ block-self a in rw h refl

later-has : (a b : Block) (bs : List Block) → has b bs ≡ true → has b (a ∷ bs) ≡ true
later-has a b bs h = by_test (block_eq a b) (λ e. rw e refl) (λ e. rw e h)

at-has : (bs : List Block) (b d : Block) (k : ℕ) → k < length bs → slice_index_or bs k d ≡ b → has b bs ≡ true
at-has [] b d k less e = absurd (omega arith)
at-has (a ∷ bs) b d zero less e = same-has a b bs e
at-has (a ∷ bs) b d (suc k) less e = later-has a b bs (at-has bs b d k (omega arith) e)

pub contains-has : (bs : List Block) (b : Block) → Contains bs b → has b bs ≡ true
contains-has bs b h = at-has bs b b h.0 h.1 h.2

contains-later : (a : Block) (bs : List Block) (b : Block) → Contains bs b → Contains (a ∷ bs) b
contains-later a bs b h = let less : h.0 < length bs = h.1 in (suc h.0, omega arith, h.2)

pub has-contains : (bs : List Block) (b : Block) → has b bs ≡ true → Contains bs b
has-contains [] b h = cc
has-contains (a ∷ bs) b h = by_test (block_eq a b)
    (λ e. (0, omega arith, block_eq-same a b e))
    (λ e. let h' : has b bs ≡ true = rw e at h in contains-later a bs b (has-contains bs b h'))

-- the blocks that pass lose their table
pub cleared-has : (pass : Block → Bool) (bs : List Block) (old : Block → Option ℕ) (b : Block)
    → cleared (filter pass bs) old b ≡ cond (pass b && has b bs) None (old b)
cleared-has pass [] old b = by_test (pass b) (λ t. rw t refl) (λ t. rw t refl)
cleared-has pass (a ∷ bs) old b =
    let more = cleared-has pass bs old b in
    by_test (block_eq a b)
    (λ e.
    let s : pass a ≡ pass b = ap pass (block_eq-same a b e) in
    by_test (pass b)
    (λ t. let u : pass a ≡ true = s ∙ t in rw (u, t, e) refl)
    (λ t. let u : pass a ≡ false = s ∙ t in
    let m : cleared (filter pass bs) old b ≡ old b = more ∙ ap (λ z. cond (z && has b bs) None (old b)) t in
    rw (u, t) m))
    (λ e. by_test (pass a) (λ t. rw (t, e) more) (λ t. rw (t, e) more))

-- one block more
module _ (pass : Block → Bool) (a : Block) (bs : List Block) (old : Block → Option ℕ) (b : Block)
    (more : (gs : List ℕ)
    → length (filter pass bs) ≤ length gs
    → is_some (placed (filter pass bs) gs old b) ≡ ((pass b && has b bs) || is_some (old b))) where
  skipped : (fs : List ℕ)
      → pass a ≡ false
      → length (filter pass bs) ≤ length fs
      → is_some (placed (filter pass (a ∷ bs)) fs old b) ≡ ((pass b && has b (a ∷ bs)) || is_some (old b))
  skipped fs t k = by_test (block_eq a b)
      (λ e. let s : pass b ≡ false = sym (ap pass (block_eq-same a b e)) ∙ t in
      let m : is_some (placed (filter pass bs) fs old b) ≡ is_some (old b) =
      more fs k ∙ ap (λ z. (z && has b bs) || is_some (old b)) s in
      rw (t, s) m)
      (λ e. rw (t, e) (more fs k))

  taken : (gs : List ℕ)
      → pass a ≡ true
      → length (a ∷ filter pass bs) ≤ length gs
      → is_some (placed (filter pass (a ∷ bs)) gs old b) ≡ ((pass b && has b (a ∷ bs)) || is_some (old b))
  taken [] t k = absurd (omega arith)
  taken (g ∷ gs) t k = by_test (block_eq a b)
      (λ e. let s : pass b ≡ true = sym (ap pass (block_eq-same a b e)) ∙ t in rw (t, s, e) refl)
      (λ e. rw (t, e) (more gs (omega arith)))

  placed-step : (fs : List ℕ)
      → length (filter pass (a ∷ bs)) ≤ length fs
      → is_some (placed (filter pass (a ∷ bs)) fs old b) ≡ ((pass b && has b (a ∷ bs)) || is_some (old b))
  placed-step fs h = by_test (pass a) (λ t. taken fs t (rw t at h)) (λ t. skipped fs t (rw t at h))

-- and those that pass get one, where there are frames enough
pub placed-has : (pass : Block → Bool) (bs : List Block) (fs : List ℕ) (old : Block → Option ℕ) (b : Block)
    → length (filter pass bs) ≤ length fs
    → is_some (placed (filter pass bs) fs old b) ≡ ((pass b && has b bs) || is_some (old b))
placed-has pass [] fs old b h = by_test (pass b) (λ t. rw t refl) (λ t. rw t refl)
placed-has pass (a ∷ bs) fs old b h = placed-step pass a bs old b (λ gs k. placed-has pass bs gs old b k) fs h

-- lists of blocks that pass one of two tests that agree on them
pub filter-same : (p q : Block → Bool) (bs : List Block)
    → ((b : Block) → has b bs ≡ true → p b ≡ q b)
    → filter p bs ≡ filter q bs
filter-same p q [] h = refl
filter-same p q (a ∷ bs) h =
    let here : p a ≡ q a = h a (same-has a a bs refl) in
    let more = filter-same p q bs (λ b k. h b (later-has a b bs k)) in
    by_test (q a)
    (λ t. let u : p a ≡ true = here ∙ t in rw (t, u) (ap (λ xs. a ∷ xs) more))
    (λ t. let u : p a ≡ false = here ∙ t in rw (t, u) more)

-- fewer pass a test that leads to the other
pub filter-fewer : (p q : Block → Bool) (bs : List Block)
    → ((b : Block) → p b ≡ true → q b ≡ true)
    → length (filter p bs) ≤ length (filter q bs)
filter-fewer p q [] h = omega arith
filter-fewer p q (a ∷ bs) h =
    let more = filter-fewer p q bs h in
    by_test (p a)
    (λ t. let u : q a ≡ true = h a t in rw (t, u) (omega (arith, more)))
    (λ t. by_test (q a) (λ u. rw (t, u) (omega (arith, more))) (λ u. rw (t, u) more))

pub some-of : (o : Option ℕ) → is_some o ≡ true → (f : ℕ) × (o ≡ Some f)
some-of (Some f) h = (f, refl)
some-of None h = cc

pub some-made : (o : Option ℕ) (f : ℕ) → o ≡ Some f → is_some o ≡ true
some-made o f e = ap (λ (x : Option ℕ). is_some x) e

pub none-of : (o : Option ℕ) → is_some o ≡ false → o ≡ None
none-of None h = refl
none-of (Some f) h = cc

-- a table after tables went
pub some-cleared : (c : Bool) (o : Option ℕ) → is_some (cond c None o) ≡ not c && is_some o
some-cleared true o = refl
some-cleared false o = refl
