-- The place of a block in a list, and the frame that it gets there.
use Rattle.std.proofs.Common.{◌≡◌, ℕ, zero, suc, ◌+◌, ◌<◌, ◌≤◌, refl, sym, ap, arith, ◌∙◌, Bool, true, false, ◌==◌, cond, Option, Some, None, List, [], ◌∷◌, ◌++◌, length, filter, get_or, All}
use Rattle.std.proofs.lemmas.List.Elements.{All-head, All-tail}
use Rattle.page_state.specs.Trees.{Block}
use Rattle.page_state.specs.Blocks.{block_eq}
use Rattle.page_state.specs.Tables.{placed}
use Rattle.page_state.proofs.Cases.{by_test}
use Rattle.page_state.proofs.Common.{eq-self}
use Rattle.page_state.proofs.BlockTests.{block_eq-same}
use Rattle.page_state.proofs.Blocks.{and-join}
use Rattle.walk_plan.specs.inner.Needs.{sum_to}
use Rattle.walk_plan.specs.inner.Ranks.{given_rank, later}
use Rattle.walk_plan.proofs.Cases.{by_last}
use Rattle.table_tree.specs.AllBlocks.{gathered}
use Rattle.walk_plan.proofs.Joined.{length_joined}

-- one block

pub block_self : (a b : Block) → a ≡ b → block_eq a b ≡ true
block_self a b h = rw h (and-join (b.0 == b.0) (b.1 == b.1) (eq-self b.0) (eq-self b.1))

pub block_other : (a b : Block) → (a ≡ b → ⊥) → block_eq a b ≡ false
block_other a b h = by_test (block_eq a b) (λ e. absurd (h (block_eq-same a b e))) (λ e. e)

-- ranks

pub later_none : (p : Option ℕ) → later 0 p ≡ p
later_none None = refl
later_none (Some r) = let e : 0 + r ≡ r = omega arith in ap Some e

pub later_twice : (m n : ℕ) (p : Option ℕ) → later m (later n p) ≡ later (m + n) p
later_twice m n None = refl
later_twice m n (Some r) = let e : m + (n + r) ≡ m + n + r = omega arith in ap Some e

-- the place of a block in a list
pub place : List Block → Block → Option ℕ
place [] b = None
place (a ∷ bs) b = cond (block_eq a b) (Some 0) (later 1 (place bs b))

pub place_nil : (b : Block) → place [] b ≡ None
unfolding place
place_nil b = refl

pub place_here : (a b : Block) (bs : List Block) → block_eq a b ≡ true → place (a ∷ bs) b ≡ Some 0
unfolding place
place_here a b bs h = rw h refl

pub place_later : (a b : Block) (bs : List Block) → block_eq a b ≡ false → place (a ∷ bs) b ≡ later 1 (place bs b)
unfolding place
place_later a b bs h = rw h refl

pub place_none : (bs : List Block) (b : Block) → All (λ a. block_eq a b ≡ false) bs → place bs b ≡ None
place_none [] b h = place_nil b
place_none (a ∷ bs) b h =
    place_later a b bs (All-head (λ a. block_eq a b ≡ false) a bs h)
    ∙ ap (later 1) (place_none bs b (All-tail (λ a. block_eq a b ≡ false) a bs h))

-- a block that doesn't pass has no place among those that do
pub place_filter : (pass : Block → Bool) (bs : List Block) (b : Block)
    → pass b ≡ false
    → place (filter pass bs) b ≡ None
place_filter pass [] b h = place_nil b
place_filter pass (a ∷ bs) b h =
    by_test (pass a)
    (λ t. rw t (by_test (block_eq a b)
    (λ e. let same : pass a ≡ pass b = ap pass (block_eq-same a b e) in
    let wrong : true ≡ false = sym t ∙ same ∙ h in
    cc)
    (λ e. place_later a b (filter pass bs) e ∙ ap (later 1) (place_filter pass bs b h))))
    (λ t. rw t (place_filter pass bs b h))

place_left : (xs ys : List Block) (b : Block) → place ys b ≡ None → place (xs ++ ys) b ≡ place xs b
place_left [] ys b h = h ∙ sym (place_nil b)
place_left (x ∷ xs) ys b h =
    by_test (block_eq x b)
    (λ e. place_here x b (xs ++ ys) e ∙ sym (place_here x b xs e))
    (λ e. place_later x b (xs ++ ys) e ∙ ap (later 1) (place_left xs ys b h) ∙ sym (place_later x b xs e))

later_some : (p : Option ℕ) → later 1 p ≡ None → p ≡ None
later_some None h = refl
later_some (Some r) h = cc

place_right : (xs ys : List Block) (b : Block) → place xs b ≡ None → place (xs ++ ys) b ≡ later (length xs) (place ys b)
place_right [] ys b h = sym (later_none (place ys b))
place_right (x ∷ xs) ys b h =
    by_test (block_eq x b)
    (λ e. let wrong : Some 0 ≡ None = sym (place_here x b xs e) ∙ h in cc)
    (λ e.
    let more = later_some (place xs b) (sym (place_later x b xs e) ∙ h) in
    let n : 1 + length xs ≡ suc (length xs) = omega arith in
    place_later x b (xs ++ ys) e ∙ ap (later 1) (place_right xs ys b more) ∙ later_twice 1 (length xs) (place ys b)
    ∙ ap (λ k. later k (place ys b)) n)

pub place_joined_none : (f : ℕ → List Block) (n : ℕ) (b : Block)
    → ((k : ℕ) → k < n → place (f k) b ≡ None)
    → place (gathered f n) b ≡ None
unfolding gathered
place_joined_none f zero b h = place_nil b
place_joined_none f (suc n) b h =
    place_left (gathered f n) (f n) b (h n (omega arith)) ∙ place_joined_none f n b (λ k p. h k (omega arith))

-- the place of a block that is in one part alone
pub place_joined : (f : ℕ → List Block) (n i : ℕ) (b : Block)
    → i < n
    → ((k : ℕ) → k < n → (k ≡ i → ⊥) → place (f k) b ≡ None)
    → place (gathered f n) b ≡ later (sum_to (λ k. length (f k)) i) (place (f i) b)
unfolding gathered
place_joined f zero i b p h = absurd (omega arith)
place_joined f (suc n) i b p h =
    by_last i n p
    (λ q. let ne : n ≡ i → ⊥ = λ e. omega arith in
    place_left (gathered f n) (f n) b (h n (omega arith) ne) ∙ place_joined f n i b q (λ k r. h k (omega arith)))
    (λ q.
    let none = place_joined_none f n b (λ k r. h k (omega arith) (λ e. omega arith)) in
    place_right (gathered f n) (f n) b none ∙ ap (λ k. later k (place (f n) b)) (length_joined f n)
    ∙ ap (λ k. later (sum_to (λ j. length (f j)) k) (place (f k) b)) (sym q))

-- the frame that a block gets

later_given : (f : ℕ) (fs : List ℕ) (p : Option ℕ) → given_rank (f ∷ fs) None (later 1 p) ≡ given_rank fs None p
later_given f fs None = refl
later_given f fs (Some r) = let e : 1 + r ≡ suc r = omega arith in ap (λ k. Some (get_or (f ∷ fs) k 0)) e

pub placed_given : (bs : List Block) (fs : List ℕ) (old : Block → Option ℕ) (b : Block)
    → length bs ≤ length fs
    → old b ≡ None
    → placed bs fs old b ≡ given_rank fs None (place bs b)
unfolding place
placed_given [] fs old b p h = h
placed_given (a ∷ bs) [] old b p h = absurd (omega arith)
placed_given (a ∷ bs) (f ∷ fs) old b p h =
    by_test (block_eq a b)
    (λ e. rw e refl)
    (λ e. rw e (placed_given bs fs old b (omega arith) h ∙ sym (later_given f fs (place bs b))))

pub placed_old : (bs : List Block) (fs : List ℕ) (old : Block → Option ℕ) (b : Block)
    → place bs b ≡ None
    → placed bs fs old b ≡ old b
placed_old [] fs old b h = refl
placed_old (a ∷ bs) [] old b h = refl
placed_old (a ∷ bs) (f ∷ fs) old b h =
    by_test (block_eq a b)
    (λ e. let wrong : Some 0 ≡ None = sym (place_here a b bs e) ∙ h in cc)
    (λ e. rw e (placed_old bs fs old b (later_some (place bs b) (sym (place_later a b bs e) ∙ h))))
