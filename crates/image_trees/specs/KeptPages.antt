-- Pages that were read.
use Rattle.std.specs.Prelude.{◌≡◌, ℕ, ◌+◌, ◌<◌, Bool, List, [], ◌++◌, All, length, map, take, slice_get, Option, Some, None, option_map, option_to_list}
use Rattle.std.specs.Option.{is_some}
use Rattle.run_list.specs.declared.run.Run.{Run}
use Rattle.table_words.specs.declared.word.Decoded.{Decoded}
use Rattle.table_words.specs.declared.word.Decoded.TheVariants.{Table}
use Rattle.walked_tables.specs.Walks.{IsTreeWalked}
use Rattle.walked_tables.specs.declared.follow.TablePage.{TablePage}
use Rattle.walked_tables.specs.declared.reached.Reached.{Reached}
use Rattle.walked_tables.specs.declared.said.Said.{Said}
use Rattle.image_trees.specs.declared.kept.KeptPage.{KeptPage}
use Rattle.image_trees.specs.declared.root.Root.{Root}

-- a frame with words
abbrev pub told : TablePage → ℕ × List ℕ
told page = (page.frame, page.words.now)

abbrev pub kept_told : KeptPage → ℕ × List ℕ
kept_told page = (page.frame, page.words.items)

-- a page has 512 words
abbrev pub HasWords : KeptPage → Type 0
HasWords page = length page.words.items ≡ 512

-- these words are those of the frame's page
abbrev pub Given : (ℕ → Option (List ℕ)) → ℕ × List ℕ → Type 0
Given read page = read page.0 ≡ Some page.1

-- the page of a frame, if there is one
abbrev pub page_at : (ℕ → Option (List ℕ)) → ℕ → Option (ℕ × List ℕ)
page_at read frame = option_map (λ words. (frame, words)) (read frame)

-- a frame's page was added, or there is none
pub record IsAdded (read : ℕ → Option (List ℕ)) (frame : ℕ) (before after : List (ℕ × List ℕ))
    (found : Bool) : Type 0 where
  pub pages : after ≡ before ++ option_to_list (page_at read frame)
  pub found_is : found ≡ is_some (page_at read frame)

-- pages of the image, the first of which are those of the root
pub record AreRead (read : ℕ → Option (List ℕ)) (root : Root) (count : ℕ)
    (pages : List (ℕ × List ℕ)) : Type 0 where
  pub given : All (Given read) pages
  pub first : (k : ℕ) → k < count → slice_get pages k ≡ page_at read (root.frame + k)

-- the value names a table that isn't there
abbrev pub IsAbsent : (ℕ → Option (List ℕ)) → Decoded → Type 0
IsAbsent read (Table frame) = read frame.0 ≡ None
IsAbsent read other = Unit {0}

-- no run names a table that is there
abbrev pub AreAbsent : (ℕ → Option (List ℕ)) → List (Run Said) → Type 0
AreAbsent read runs = All (λ r. IsAbsent read r.value.0) runs

-- the tree by these pages
pub record IsWalkedBy (root : Root) (pages : List (ℕ × List ℕ)) (tables : List Reached)
    (runs : List (Run Said)) : Type 0 where
  pub table_pages : List TablePage
  pub same : map told table_pages ≡ pages
  pub walked : IsTreeWalked root.profile table_pages root.tree root.depth
      (take root.count table_pages) [] tables runs

-- the pages that a value names were added
pub record IsNamed (read : ℕ → Option (List ℕ)) (decoded : Decoded)
    (before after : List (ℕ × List ℕ)) : Type 0 where
  pub more : List (ℕ × List ℕ)
  pub pages : after ≡ before ++ more
  pub given : All (Given read) more
  pub absent : length after ≡ length before → IsAbsent read decoded

-- those that runs name
pub record AreMore (read : ℕ → Option (List ℕ)) (runs : List (Run Said))
    (before after : List (ℕ × List ℕ)) : Type 0 where
  pub more : List (ℕ × List ℕ)
  pub pages : after ≡ before ++ more
  pub given : All (Given read) more
  pub absent : length after ≡ length before → AreAbsent read runs
