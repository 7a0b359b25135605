-- Runs of small numbers, whose sums are numbers of 64 bits.
use Rattle.std.specs.Prelude.{ℕ, ◌+◌, ◌^◌, ◌≤◌, List, All}
use Rattle.page_state.specs.declared.entry.Entry.{Entry}
use Rattle.page_state.specs.declared.entry.Entry.TheVariants.{Leaf}
use Rattle.page_state.specs.declared.entry.Run.{Run}
use Rattle.page_state.specs.Entries.{entry_of_target}
use Rattle.page_state.specs.Runs.{run_end}

-- the frames of a leaf and of the pages after it, `count` in all, are below 2^63
abbrev pub HasLowFrames : Entry → ℕ → Type 0
HasLowFrames (Leaf frame prot kind state) count = frame.0 + count ≤ 2 ^ 63
HasLowFrames other count = Unit {0}

-- the pages and the frames of a run are below 2^63
abbrev pub IsSmall : Run → Type 0
IsSmall r = (run_end r ≤ 2 ^ 63) × HasLowFrames (entry_of_target r.target) r.pages.count

-- the numbers of each run of a list are small
abbrev pub AreSmall : List Run → Type 0
AreSmall runs = All IsSmall runs
