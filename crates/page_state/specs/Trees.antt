-- Trees of tables and pools, as the reference state has them.
use Rattle.std.specs.Prelude.{ℕ, zero, suc, ◌+◌, ◌&&◌, ◌==◌, List, [], ◌∷◌, Option, Some, None, if◌then◌else◌}
use Rattle.page_state.specs.Map.{Map, empty_map}

-- a block (d, i): the 512 ^ d aligned pages from page i * 512 ^ d on, which lie under one word and
-- may have a table
abbrev pub Block : Type 0
Block = ℕ × ℕ

-- a tree: its map, and the frame of the table at each block; the root is the table at the block of
-- all pages
pub record Tree : Type 0 where
  pub map : Map
  pub table : Block → Option ℕ

-- a pool: its free frames, in increasing order
abbrev pub Pool : Type 0
Pool = List ℕ

-- a tree without a table, not even a root
abbrev pub no_tree : Tree
no_tree = record { map = empty_map; table = λ b. None }

-- a tree that has only its root table, with `depth` levels below it, and maps nothing
abbrev pub root_tree : ℕ → ℕ → Tree
root_tree depth root =
    record {
      map = empty_map;
      table = λ b. if b.0 == depth + 1 && b.1 == 0 then Some root
          else None;
    }

-- the `n` frames from the first on, in order
abbrev pub frames_from : ℕ → ℕ → Pool
frames_from first zero = []
frames_from first (suc n) = first ∷ frames_from (first + 1) n
