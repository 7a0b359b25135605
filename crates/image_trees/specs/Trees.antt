-- A tree in an image.
use Rattle.std.specs.Prelude.{◌≡◌, ℕ, List, AllPairs, map, take, Option}
use Rattle.std.specs.Option.{ForSome}
use Rattle.memory_image.specs.Pages.{page_words}
use Rattle.memory_image.specs.declared.segment.Segment.{Segment}
use Rattle.run_list.specs.Runs.{IsCoarsest, run_map}
use Rattle.run_list.specs.declared.run.Run.{Run}
use Rattle.walked_tables.specs.ByFrames.{tables_by_frames}
use Rattle.walked_tables.specs.Reached.{AreOtherFrames}
use Rattle.walked_tables.specs.Values.{advance_said}
use Rattle.walked_tables.specs.declared.follow.TablePage.{TablePage}
use Rattle.walked_tables.specs.declared.reached.Reached.{Reached}
use Rattle.walked_tables.specs.declared.said.Said.{Said}
use Rattle.image_trees.specs.InImage.{image_map}
use Rattle.image_trees.specs.KeptPages.{AreRead, told}
use Rattle.image_trees.specs.declared.root.Root.{Root}

-- each page has what the words of the image's pages say, and the tables are those that pages of the
-- image lead on to, none twice
pub record IsTreeIn (read : ℕ → Option (List ℕ)) (root : Root) (runs : List (Run Said))
    (tables : List Reached) : Type 0 where
  pub map_is : run_map advance_said runs ≡ image_map read root
  pub coarsest : IsCoarsest advance_said runs
  pub pages : List TablePage
  pub read_from : AreRead read root root.count (map told pages)
  pub tables_are : tables
      ≡ tables_by_frames root.profile pages root.tree root.depth (take root.count pages)
  pub apart : AllPairs AreOtherFrames tables

-- the same by a file's bytes, if they are known
abbrev pub IsTreeOf : Option (List ℕ)
    → List Segment
    → Root
    → List (Run Said)
    → List Reached
    → Type 0
IsTreeOf known segments root runs tables =
    ForSome known (λ all. IsTreeIn (page_words all segments) root runs tables)
