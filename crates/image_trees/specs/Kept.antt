-- Pages that were read, by a file's bytes if they are known.
use Rattle.std.specs.Prelude.{ℕ, Bool, List, map, Option}
use Rattle.std.specs.Option.{ForSome}
use Rattle.memory_image.specs.Pages.{page_words}
use Rattle.memory_image.specs.declared.segment.Segment.{Segment}
use Rattle.run_list.specs.declared.run.Run.{Run}
use Rattle.table_words.specs.declared.word.Decoded.{Decoded}
use Rattle.walked_tables.specs.declared.said.Said.{Said}
use Rattle.image_trees.specs.KeptPages.{kept_told, AreMore, AreRead, IsAdded, IsNamed}
use Rattle.image_trees.specs.declared.kept.KeptPage.{KeptPage}
use Rattle.image_trees.specs.declared.root.Root.{Root}

-- a frame's page was added, or there is none
abbrev pub WasAdded : Option (List ℕ)
    → List Segment
    → ℕ
    → (before after : List KeptPage)
    → Bool
    → Type 0
WasAdded known segments frame before after found =
    ForSome known
    (λ all. IsAdded (page_words all segments) frame (map kept_told before)
    (map kept_told after) found)

-- the root's pages
abbrev pub WereRead : Option (List ℕ) → List Segment → Root → List KeptPage → Type 0
WereRead known segments root kept =
    ForSome known (λ all. AreRead (page_words all segments) root root.count (map kept_told kept))

-- the page that a value names was added
abbrev pub WasNamed : Option (List ℕ)
    → List Segment
    → Decoded
    → (before after : List KeptPage)
    → Type 0
WasNamed known segments decoded before after =
    ForSome known
    (λ all. IsNamed (page_words all segments) decoded (map kept_told before)
    (map kept_told after))

-- those that runs name
abbrev pub WereNamed : Option (List ℕ)
    → List Segment
    → List (Run Said)
    → (before after : List KeptPage)
    → Type 0
WereNamed known segments runs before after =
    ForSome known
    (λ all. AreMore (page_words all segments) runs (map kept_told before) (map kept_told after))
