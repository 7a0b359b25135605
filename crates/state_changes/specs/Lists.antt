-- The runs of a map, as a list of runs has them.
use Rattle.std.specs.Prelude.{List, map}
use Rattle.page_state.specs.declared.entry.Run.{Run as PageRun}
use Rattle.page_state.specs.declared.entry.Target.{Target}
use Rattle.run_list.specs.declared.run.Run.{Run}

abbrev pub list_run : PageRun → Run Target
list_run r = record { pages = r.pages; value = r.target }

abbrev pub list_runs : List PageRun → List (Run Target)
list_runs runs = map list_run runs
