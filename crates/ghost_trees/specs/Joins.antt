-- How a run is put in front of a list of runs.
use Rattle.std.specs.Prelude.{◌+◌, Bool, ◌&&◌, ◌==◌, List, [], ◌∷◌, if◌then◌else◌}
use Rattle.page_state.specs.declared.entry.Run.{Run}
use Rattle.page_state.specs.Entries.{entry_of_target}
use Rattle.page_state.specs.EntryTests.{entry_eq}
use Rattle.page_state.specs.Runs.{run_end, entry_on}

-- whether the second run continues the first
abbrev pub continues : Run → Run → Bool
continues r n =
    run_end r == n.pages.first.0 && entry_eq (entry_on r (run_end r)) (entry_of_target n.target)

-- a run with the pages of the run that continues it
abbrev pub longer : Run → Run → Run
longer r n = record r { pages = record r.pages { count = r.pages.count + n.pages.count } }

-- a run in front of a list: it takes the pages of the first run if that continues it
abbrev pub joined : Run → List Run → List Run
joined r [] = r ∷ []
joined r (n ∷ rs) = if continues r n then longer r n ∷ rs else r ∷ (n ∷ rs)

-- a run in front of a list; the list alone if the run has no page
abbrev pub with_run : Run → List Run → List Run
with_run r rs = if r.pages.count == 0 then rs else joined r rs

-- runs in front of a list, the last put first
abbrev pub all_joined : List Run → List Run → List Run
all_joined [] rest = rest
all_joined (r ∷ rs) rest = with_run r (all_joined rs rest)
