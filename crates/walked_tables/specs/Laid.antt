-- Maps some of whose pages have what another says.
use Rattle.std.specs.Prelude.{ℕ, Option, if◌then◌else◌}
use Rattle.page_state.specs.Map.{is_within}
use Rattle.walked_tables.specs.declared.said.Said.{Said}

-- a map in which `count` pages from the first on have what another says
abbrev pub laid : ℕ → ℕ → (ℕ → Option Said) → (ℕ → Option Said) → ℕ → Option Said
laid first count above below page = if is_within first count page then above page else below page
