-- Laws of the definitions, each proved on the contract of the function of its name.
use Rattle.std.specs.Prelude.{◌≡◌, ℕ, ◌+◌, ◌-◌, ◌≤◌, ◌<◌, ◌⊎◌, ◌↔◌, true, List, Contains, AllPairs}
use Rattle.descriptor.specs.declared.Level.{Level}
use Rattle.descriptor.specs.declared.Level.TheVariants.{Zero, One, Two, Three}
use Rattle.page_state.specs.declared.entry.Entry.{Entry}
use Rattle.page_state.specs.declared.entry.Entry.TheVariants.{Unmapped}
use Rattle.page_state.specs.declared.entry.Run.{Run}
use Rattle.descriptor.specs.Word.{IsEncodable}
use Rattle.page_state.specs.Entries.{advance, word_of_entry}
use Rattle.page_state.specs.Map.{Map, update}
use Rattle.page_state.specs.Runs.{map_of, IsCoarsest}
use Rattle.page_state.specs.Trees.{Block}
use Rattle.page_state.specs.Blocks.{span, first_page, fits_word, is_one_word, is_empty, blocks_on}

-- an update reads as the advanced entry inside its range
abbrev pub UpdateInside : Type 0
UpdateInside =
    (m : Map) (first count : ℕ) (e : Entry) (page : ℕ)
    → first ≤ page
    → page < first + count
    → update m first count e page ≡ advance e (page - first)

-- and as the map before outside of it
abbrev pub UpdateOutside : Type 0
UpdateOutside =
    (m : Map) (first count : ℕ) (e : Entry) (page : ℕ)
    → (page < first) ⊎ (first + count ≤ page)
    → update m first count e page ≡ m page

-- a map has at most one coarsest list of runs
abbrev pub CoarsestOnce : Type 0
CoarsestOnce = (rs ss : List Run) → IsCoarsest rs → IsCoarsest ss → map_of rs ≡ map_of ss → rs ≡ ss

-- each finite map has one
abbrev pub CoarsestOfMap : Type 0
CoarsestOfMap =
    (m : Map) (bound : ℕ)
    → ((page : ℕ) → bound ≤ page → m page ≡ Unmapped)
    → (cs : List Run) × IsCoarsest cs × (map_of cs ≡ m)

-- each list of runs has a coarsest list with the same map
abbrev pub CoarsestExists : Type 0
CoarsestExists = (rs : List Run) → (cs : List Run) × IsCoarsest cs × (map_of cs ≡ map_of rs)

-- a word of a level, with that many levels below it, can encode an entry if and only if the
-- relation of words and descriptors has such a word
abbrev pub FitsWord : ℕ → Level → Type 0
FitsWord depth level =
    (e : Entry) → (fits_word depth e ≡ true) ↔ IsEncodable level (word_of_entry e)

-- at each level
abbrev pub FitsEachWord : Type 0
FitsEachWord = FitsWord 0 Three × FitsWord 1 Two × FitsWord 2 One × FitsWord 3 Zero

-- a block can be one word if and only if one entry that a word can encode advances along all of it
abbrev pub OneWordMeans : Type 0
OneWordMeans =
    (m : Map) (b : Block)
    → (is_one_word m b ≡ true)
    ↔ ((fits_word b.0 (m (first_page b)) ≡ true)
    × ((i : ℕ) → i < span b → m (first_page b + i) ≡ advance (m (first_page b)) i))

-- a block is empty if and only if none of its pages is mapped
abbrev pub EmptyMeans : Type 0
EmptyMeans =
    (m : Map) (b : Block)
    → (is_empty m b ≡ true) ↔ ((i : ℕ) → i < span b → m (first_page b + i) ≡ Unmapped)

-- the blocks on a range are those of the depths asked for that meet it
abbrev pub BlocksMeet : Type 0
BlocksMeet =
    (top first count : ℕ) (b : Block)
    → 0 < count
    → Contains (blocks_on top first count) b
    ↔ ((1 ≤ b.0)
    × (b.0 ≤ top)
    × (first_page b < first + count)
    × (first < first_page b + span b))

-- one block comes before another: it begins on an earlier page, or on the same one and is the
-- greater
abbrev pub ComesBefore : Block → Block → Type 0
ComesBefore a b = (first_page a < first_page b) ⊎ ((first_page a ≡ first_page b) × (b.0 < a.0))

-- they come by page, the parent before the child, and so each once
abbrev pub BlocksOrdered : Type 0
BlocksOrdered = (top first count : ℕ) → AllPairs ComesBefore (blocks_on top first count)
