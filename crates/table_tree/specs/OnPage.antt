-- The words on the path of a page.
use Rattle.std.specs.Prelude.{ℕ, zero, suc, ◌-◌, ◌+◌, nat_le, nat_lt, ◌&&◌, List, [], ◌∷◌, Option, Some, None, if◌then◌else◌}
use Rattle.page_state.specs.Geometries.{levels_below, input_pages}
use Rattle.page_state.specs.declared.layout.Geometry.{Geometry}
use Rattle.table_tree.specs.declared.tree.Tree.{Tree}
use Rattle.table_tree.specs.Meaning.{index_at}
use Rattle.table_tree.specs.View.{word_of}

-- the indices of a page in a number of tables, of which the first has `below` levels below it (Arm
-- DDI 0487, D8.2)
abbrev pub path_of : ℕ → ℕ → ℕ → List ℕ
path_of page below zero = []
path_of page below (suc more) = index_at below page ∷ path_of page (below - 1) more

-- the word on a page's path at a level. None where the page isn't good, the level isn't one of the
-- tree's, the root's being 3 less the levels below it, or no table of the tree has that word
unfoldable pub word_on : {A : Type 0} → Tree A → ℕ → ℕ → Option ℕ
word_on tree page level =
    let depth = levels_below tree.geometry in
    if nat_lt page (input_pages tree.geometry) && (nat_le (3 - depth) level && nat_le level 3)
    then word_of tree (path_of page depth (level + 1 - (3 - depth))) else None
