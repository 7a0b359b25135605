-- Ranges of pages that the report leaves out.
use Rattle.std.specs.Prelude.{ℕ, ◌+◌, ◌-◌, ◌==◌, ◌&&◌, not, nat_le, Bool, List}
use Rattle.std.specs.List.{list_any}
use Rattle.run_list.specs.declared.run.Run.{Run}
use Rattle.walked_tables.specs.declared.said.Said.{Said}
use Rattle.image_dump.specs.declared.skip.Skip.{Skip}

-- all pages of a run of this tree lie in the range
abbrev pub covers : ℕ → Run Said → Skip → Bool
covers tree run skip =
    ((skip.tree == tree && nat_le skip.first run.pages.first.0)
    && nat_le run.pages.first.0 skip.last)
    && nat_le run.pages.count (skip.last - run.pages.first.0 + 1)

-- no range covers the run
abbrev pub is_left : List Skip → ℕ → Run Said → Bool
is_left skips tree run = not (list_any (covers tree run) skips)
