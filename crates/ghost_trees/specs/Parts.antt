-- Parts of runs, and the run of a range.
use Rattle.std.specs.Prelude.{ℕ, ◌+◌, ◌-◌, ◌<◌, ◌≤◌, min, List, [], ◌∷◌, Option, Some, None}
use Rattle.page_state.specs.declared.entry.Entry.{Entry}
use Rattle.page_state.specs.declared.entry.PageRange.{PageRange}
use Rattle.page_state.specs.declared.entry.Run.{Run}
use Rattle.page_state.specs.declared.entry.Target.{Target}
use Rattle.page_state.specs.Entries.{target_of, advance_target}
use Rattle.page_state.specs.Runs.{run_end}
use Rattle.ghost_trees.specs.declared.runs.Side.{Side}
use Rattle.ghost_trees.specs.declared.runs.Side.TheVariants.{Before, From}

-- a run without its first pages
abbrev pub run_behind : Run → ℕ → Run
run_behind r skipped = record {
  pages =
      record { first = record { 0 = r.pages.first.0 + skipped }; count = r.pages.count - skipped };
  target = advance_target r.target skipped;
}

-- the part of a run on one side of a page
abbrev pub run_part : Side → ℕ → Run → Run
run_part Before page r =
    record r { pages = record r.pages { count = min (page - r.pages.first.0) r.pages.count } }
run_part From page r = run_behind r (min (page - r.pages.first.0) r.pages.count)

-- the run of a range whose pages have an entry, or no run if nothing is mapped there
abbrev pub run_of_target : PageRange → Option Target → List Run
run_of_target range None = []
run_of_target range (Some target) = record { pages = range; target = target } ∷ []

-- the run of a range with an entry
abbrev pub runs_for : PageRange → Entry → List Run
runs_for range entry = run_of_target range (target_of entry)

-- all runs end before the page
abbrev pub EndBefore : ℕ → List Run → Type 0
EndBefore page [] = Unit {0}
EndBefore page (r ∷ rs) = (run_end r < page) × EndBefore page rs

-- the first run ends at the page or after it
abbrev pub EndsFrom : ℕ → List Run → Type 0
EndsFrom page [] = Unit {0}
EndsFrom page (r ∷ rs) = page ≤ run_end r

-- the first run begins at the page or after it
abbrev pub BeginsFrom : ℕ → List Run → Type 0
BeginsFrom page [] = Unit {0}
BeginsFrom page (r ∷ rs) = page ≤ r.pages.first.0
