-- All blocks of a tree, and the tables at them.
use Rattle.std.specs.Prelude.{ℕ, zero, suc, ◌+◌, ◌*◌, List, [], ◌∷◌, ◌++◌, length, filter, filter_map, is_some}
use Rattle.page_state.specs.declared.layout.Geometry.{Geometry}
use Rattle.page_state.specs.Trees.{Block, Tree as ReferenceTree}
use Rattle.page_state.specs.Geometries.{levels_below}

-- the lists that a function gives the first numbers, one after the other
unfoldable pub gathered : {X : Type 0} → (ℕ → List X) → ℕ → List X
gathered f zero = []
gathered f (suc n) = gathered f n ++ f n

-- a block and all blocks in it, by page, the greater before those in it
unfoldable pub blocks_in : ℕ → ℕ → List Block
blocks_in zero number = []
blocks_in (suc depth) number =
    (suc depth, number) ∷ gathered (λ i. blocks_in depth (512 * number + i)) 512

-- all blocks at which a table may be, the root's first
abbrev pub all_blocks : Geometry → List Block
all_blocks geometry = blocks_in (levels_below geometry + 1) 0

-- how many blocks have a table
abbrev pub table_count : Geometry → ReferenceTree → ℕ
table_count geometry tree = length (filter (λ b. is_some (tree.table b)) (all_blocks geometry))

-- the frames of the tables at the blocks, in the order of the blocks
abbrev pub table_frames : Geometry → ReferenceTree → List ℕ
table_frames geometry tree = filter_map tree.table (all_blocks geometry)
