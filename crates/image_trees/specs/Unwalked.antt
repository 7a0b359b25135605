-- Why a tree isn't walked.
use Rattle.std.specs.Prelude.{◌≡◌, ℕ, ◌+◌, ◌^◌, ◌≤◌, ◌<◌, List, All, length, map, take, Option, None}
use Rattle.std.specs.Option.{ForSome}
use Rattle.memory_image.specs.Pages.{page_words}
use Rattle.memory_image.specs.declared.segment.Segment.{Segment}
use Rattle.memory_image.specs.declared.refused.Refused.{Refused}
use Rattle.memory_image.specs.declared.refused.Refused.TheVariants.{Wrong, Unread, NoMemory}
use Rattle.walked_tables.specs.ByFrames.{tables_by_frames}
use Rattle.walked_tables.specs.Reached.{IsAgain}
use Rattle.walked_tables.specs.declared.follow.TablePage.{TablePage}
use Rattle.image_trees.specs.KeptPages.{Given, told}
use Rattle.image_trees.specs.declared.root.Root.{Root}
use Rattle.image_trees.specs.declared.root.Unwalked.{Unwalked}
use Rattle.image_trees.specs.declared.root.Unwalked.TheVariants.{Rootless, Again, TooManyTables, Failed}

-- a page could not be read, or memory was refused
abbrev pub IsFailed : (ℕ → ℕ → Type 0) → Refused → Type 0
IsFailed may_fail (Wrong fault) = ⊥
IsFailed may_fail (Unread at) = may_fail at 4096
IsFailed may_fail NoMemory = Unit {0}

-- pages of the image by which a table is reached twice
abbrev pub IsMetTwice : (ℕ → Option (List ℕ)) → Root → List TablePage → Unwalked → Type 0
IsMetTwice read root pages (Again first second) =
    All (Given read) (map told pages)
    × IsAgain
    (tables_by_frames root.profile pages root.tree root.depth
    (take root.count pages)) first second
IsMetTwice read root pages other = ⊥

-- a reason by which the tree isn't walked
abbrev pub IsUnwalked : Option (List ℕ) → (ℕ → ℕ → Type 0) → List Segment → Root → Unwalked → Type 0
IsUnwalked known may_fail segments root (Rootless frame) =
    (root.frame ≤ frame)
    × (frame < root.frame + root.count)
    × ForSome known (λ all. page_words all segments frame ≡ None)
IsUnwalked known may_fail segments root (Again first second) =
    ForSome known
    (λ all. (pages : List TablePage)
    × IsMetTwice (page_words all segments) root pages (Again first second))
IsUnwalked known may_fail segments root TooManyTables =
    ForSome known
    (λ all. (pages : List (ℕ × List ℕ))
    × All (Given (page_words all segments)) pages
    × (2 ^ 20 ≤ length pages))
IsUnwalked known may_fail segments root (Failed refused) = IsFailed may_fail refused

-- a page could not be read
abbrev pub IsPageFailed : (ℕ → ℕ → Type 0) → Unwalked → Type 0
IsPageFailed may_fail (Failed refused) = IsFailed may_fail refused
IsPageFailed may_fail other = ⊥

-- the walk by these pages ends early
abbrev pub IsStoppedBy : Root → List (ℕ × List ℕ) → Unwalked → Type 0
IsStoppedBy root pages (Again first second) =
    (table_pages : List TablePage)
    × (map told table_pages ≡ pages)
    × IsAgain
    (tables_by_frames root.profile table_pages root.tree root.depth
    (take root.count table_pages)) first second
IsStoppedBy root pages (Failed NoMemory) = Unit {0}
IsStoppedBy root pages other = ⊥
