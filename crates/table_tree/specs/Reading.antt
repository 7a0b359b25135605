-- Counts of looks.
use Rattle.std.specs.Prelude.{ℕ}
use Rattle.table_tree.specs.declared.table.Reads.{Reads}

-- how many slots were looked at
abbrev pub count_of : Reads → ℕ
count_of r = r.count
