-- The cost of the ends of a change, in looks at slots.
use Rattle.std.specs.Prelude.{ℕ, ◌+◌, ◌==◌, if◌then◌else◌}
use Rattle.page_state.specs.Geometries.{block_pages}
use Rattle.walk_plan.specs.declared.change.Change.{Change}

-- `k`, unless two numbers are equal
unfoldable pub edge : ℕ → ℕ → ℕ → ℕ
edge k a b = if a == b then 0 else k

-- `k` for each end of a change that is not an end of its block
abbrev pub edges : ℕ → ℕ → Change → ℕ
edges k depth c = edge k c.first 0 + edge k c.end (block_pages depth)
