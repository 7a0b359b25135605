-- The map of a root table with the tables below it. They may be any tables, not only those of a
-- valid tree.
use Rattle.std.specs.Prelude.{ℕ, zero, suc, ◌*◌, nat_lt, Option, None, if◌then◌else◌}
use Rattle.page_state.specs.declared.entry.Entry.TheVariants.{Unmapped}
use Rattle.page_state.specs.declared.layout.Geometry.{Geometry}
use Rattle.page_state.specs.Geometries.{levels_below, input_pages, block_pages}
use Rattle.page_state.specs.Map.{Map}
use Rattle.page_state.specs.Trees.{Tree}
use Rattle.table_tree.specs.declared.table.Table.{Table}
use Rattle.table_tree.specs.Meaning.{entry_at}
use Rattle.table_tree.specs.Tables.{table_in}

-- the entry that the words give each page
unfoldable pub map_under : {A : Type 0} → Geometry → Table A → Map
map_under geometry root page =
    if nat_lt page (input_pages geometry) then entry_at (levels_below geometry) root page
    else Unmapped

-- the frame of the table at a block: `number` of the blocks of 512 ^ `depth` pages
unfoldable pub table_under : {A : Type 0} → Geometry → Table A → ℕ → ℕ → Option ℕ
table_under geometry root zero number = None
table_under geometry root (suc low) number =
    if nat_lt (number * block_pages (suc low)) (input_pages geometry)
    then table_in (levels_below geometry) root low (number * block_pages (suc low))
    else None

-- the tree of both
abbrev pub tree_under : {A : Type 0} → Geometry → Table A → Tree
tree_under geometry root =
    record { map = map_under geometry root; table = λ b. table_under geometry root b.0 b.1 }
