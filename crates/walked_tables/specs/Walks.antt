-- What a walk finds: the tables that it reaches join those met before, and what each page has joins
-- the runs, or is them.
use Rattle.std.specs.Prelude.{◌≡◌, ℕ, ◌+◌, ◌*◌, List, AllPairs, ◌++◌}
use Rattle.page_state.specs.Geometries.{block_pages}
use Rattle.run_list.specs.declared.run.Run.{Run}
use Rattle.run_list.specs.Runs.{AreInReach, EndBefore, IsCoarsest, run_map}
use Rattle.run_list.specs.View.{IsKept}
use Rattle.table_words.specs.declared.profile.Profile.{Profile}
use Rattle.walked_tables.specs.declared.follow.TablePage.{TablePage}
use Rattle.walked_tables.specs.declared.reached.Reached.{Reached}
use Rattle.walked_tables.specs.declared.said.Said.{Said}
use Rattle.walked_tables.specs.ByFrames.{map_by_frames, said_by, table_pages, tables_by_frames, tables_under}
use Rattle.walked_tables.specs.Laid.{laid}
use Rattle.walked_tables.specs.Reached.{AreOtherFrames}
use Rattle.walked_tables.specs.Values.{CanGoOn, advance_said}

-- the walk of a whole tree
pub record IsTreeWalked (profile : Profile) (pages : List TablePage) (tree depth : ℕ)
    (roots : List TablePage) (before after : List Reached) (runs : List (Run Said)) : Type 0 where
  pub map : run_map advance_said runs ≡ map_by_frames profile pages depth roots
  pub coarsest : IsCoarsest advance_said runs
  pub in_reach : AreInReach CanGoOn runs
  pub met : after ≡ before ++ tables_by_frames profile pages tree depth roots
  pub apart : AllPairs AreOtherFrames after

-- the walk of the table in `page`, at block `number` of those of its level
pub record IsTableWalked (profile : Profile) (pages : List TablePage) (tree depth number : ℕ)
    (page : TablePage) (before after : List Reached) (old new : List (Run Said)) : Type 0 where
  pub map : run_map advance_said new
      ≡ laid (number * block_pages (depth + 1)) (table_pages depth)
      (said_by profile pages depth page) (run_map advance_said old)
  pub kept : IsKept advance_said CanGoOn new
  pub behind : EndBefore (number * block_pages (depth + 1) + table_pages depth + 1) new
  pub met : after ≡ before ++ tables_under profile pages tree depth number page
  pub apart : AllPairs AreOtherFrames after
