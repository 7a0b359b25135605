-- Lists joined of parts.
use Rattle.std.proofs.Common.{◌≡◌, ℕ, zero, suc, ◌+◌, ◌<◌, refl, ap, arith, ◌∙◌, List, [], ◌++◌, Option, filter_map, add-one}
use Rattle.std.proofs.lemmas.List.Elements.{filter_map-append}
use Rattle.table_tree.specs.AllBlocks.{gathered}

module _ {X : Type 0} where
  pub joined_start : (f : ℕ → List X) → gathered f 0 ≡ []
  unfolding gathered
  joined_start f = refl

  pub joined_more : (f : ℕ → List X) (n : ℕ) → gathered f (n + 1) ≡ gathered f n ++ f n
  unfolding gathered
  joined_more f n = rw (add-one n) refl

  pub joined_none : (f : ℕ → List X) (n : ℕ) → ((i : ℕ) → i < n → f i ≡ []) → gathered f n ≡ []
  unfolding gathered
  joined_none f zero h = refl
  joined_none f (suc n) h = rw (joined_none f n (λ i p. h i (omega arith)), h n (omega arith)) refl

  pub joined_same : (f g : ℕ → List X) (n : ℕ) → ((i : ℕ) → i < n → f i ≡ g i) → gathered f n ≡ gathered g n
  unfolding gathered
  joined_same f g zero h = refl
  joined_same f g (suc n) h = rw (joined_same f g n (λ i p. h i (omega arith)), h n (omega arith)) refl

pub filter_map_joined : {X Y : Type 0} (h : X → Option Y) (f : ℕ → List X) (n : ℕ)
    → filter_map h (gathered f n) ≡ gathered (λ i. filter_map h (f i)) n
unfolding gathered
filter_map_joined h f zero = refl
filter_map_joined h f (suc n) =
    filter_map-append h (gathered f n) (f n) ∙ ap (λ xs. xs ++ filter_map h (f n)) (filter_map_joined h f n)
