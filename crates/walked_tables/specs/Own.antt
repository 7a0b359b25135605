-- The walk by the model's profile, and c_tables' walk.
use Rattle.std.specs.Prelude.{◌≡◌, ℕ, ◌+◌, ◌^◌, ◌<◌, List, [], ◌∷◌, map, All, Option, Some, None}
use Rattle.descriptor.specs.declared.Desc.{Desc}
use Rattle.descriptor.specs.declared.State.TheVariants.{Owned}
use Rattle.page_state.specs.declared.entry.Entry.{Entry}
use Rattle.page_state.specs.declared.entry.Entry.TheVariants.{Unmapped, Malformed}
use Rattle.page_state.specs.declared.layout.Geometry.{Geometry}
use Rattle.page_state.specs.Entries.{entry_of_word}
use Rattle.page_state.specs.Geometries.{levels_below}
use Rattle.c_tables.specs.declared.follow.PlainPage.{PlainPage}
use Rattle.c_tables.specs.ByFrames.{map_by_frames as plain_map, tables_by_frames as c_tables}
use Rattle.c_tables.specs.declared.reached.Reached.{Reached as PlainReached}
use Rattle.table_words.specs.Entries.{entry_of}
use Rattle.table_words.specs.Profiles.{model_profile}
use Rattle.walked_tables.specs.declared.follow.TablePage.{TablePage}
use Rattle.walked_tables.specs.declared.said.Said.{Said}
use Rattle.walked_tables.specs.ByFrames.{map_by_frames, tables_by_frames, words_of}
use Rattle.walked_tables.specs.declared.reached.Reached.{Reached}

-- the same page
abbrev pub as_plain : TablePage → PlainPage
as_plain page = record { frame = page.frame; words = page.words }

-- the words of a page have 64 bits
abbrev pub HasWords : TablePage → Type 0
HasWords page = All (λ w. w < 2 ^ 64) (words_of page)

-- the entry of a descriptor, if there is one
abbrev pub desc_entry : Option Desc → Entry
desc_entry (Some desc) = entry_of_word desc
desc_entry None = Malformed

-- the entry of what a page has; the state for words that say none doesn't matter here
abbrev pub entry_of_said : Option Said → Entry
entry_of_said (Some said) = desc_entry (entry_of said.0 Owned)
entry_of_said None = Unmapped

-- each page has, by the model's profile and a root of one page, what c_tables gives it
abbrev pub IsPlainWalk : Type 0
IsPlainWalk =
    (geometry : Geometry) (pages : List TablePage) (root : TablePage) (page : ℕ)
    → All HasWords pages
    → HasWords root
    → entry_of_said (map_by_frames model_profile pages (levels_below geometry) (root ∷ []) page)
    ≡ plain_map geometry (map as_plain pages) (as_plain root) page

-- a table that the one walk reaches, as the other says it
abbrev pub as_reached : Reached → PlainReached
as_reached r =
    record { tree = r.tree; table = record { block = (r.depth + 1, r.number); frame = r.frame } }

-- both walks reach the same tables in the same order
abbrev pub IsPlainOrder : Type 0
IsPlainOrder =
    (geometry : Geometry) (pages : List TablePage) (tree : ℕ) (root : TablePage)
    → All HasWords pages
    → HasWords root
    → map as_reached (tables_by_frames model_profile pages tree (levels_below geometry) (root ∷ []))
    ≡ c_tables geometry (map as_plain pages) tree (as_plain root)
