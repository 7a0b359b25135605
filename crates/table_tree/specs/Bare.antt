-- Blocks of a table on which nothing is mapped.
use Rattle.std.specs.Prelude.{◌≡◌, ℕ, ◌/◌}
use Rattle.page_state.specs.declared.entry.Entry.TheVariants.{Unmapped}
use Rattle.page_state.specs.Geometries.{block_pages}
use Rattle.table_tree.specs.declared.table.Table.{Table}
use Rattle.table_tree.specs.Meaning.{entry_at}

-- a table with `top` levels below it maps nothing on the block of a depth that holds a page
abbrev pub IsBare : {A : Type 0} → ℕ → Table A → ℕ → ℕ → Type 0
IsBare top t depth page =
    (q : ℕ) → q / block_pages depth ≡ page / block_pages depth → entry_at top t q ≡ Unmapped
