-- Blocks with the same numbers.
use Rattle.std.proofs.Common.{◌≡◌, ℕ}
use Rattle.std.specs.Prelude.{true, ◌==◌}
use Rattle.page_state.specs.Trees.{Block}
use Rattle.page_state.specs.Blocks.{block_eq}
use Rattle.page_state.proofs.Common.{eq-same, and-both}

pub block-same : {a b : Block} → a.0 ≡ b.0 → a.1 ≡ b.1 → a ≡ b
block-same {a} {b} p q = let pair : ℕ → ℕ → Block = λ x y. (x, y) in go pair p q
  where
    go : (f : ℕ → ℕ → Block) → a.0 ≡ b.0 → a.1 ≡ b.1 → f a.0 a.1 ≡ f b.0 b.1
    go f p q = cc

pub block_eq-same : (a b : Block) → block_eq a b ≡ true → a ≡ b
block_eq-same a b h =
    let both = and-both (a.0 == b.0) (a.1 == b.1) h in
    block-same (eq-same a.0 b.0 both.0) (eq-same a.1 b.1 both.1)
