-- The map of a tree whose tables lie in pages: a table word leads on to the page of its frame, if
-- there is one. Depths count the levels below.
use Rattle.std.specs.Prelude.{◌≡◌, ℕ, zero, suc, ◌+◌, ◌*◌, ◌/◌, ◌%◌, ◌^◌, ◌<◌, ◌==◌, nat_lt, List, [], ◌∷◌, ◌++◌, map, get_or, length, find, Option, Some, None, if◌then◌else◌}
use Rattle.descriptor.specs.declared.Desc.{Desc}
use Rattle.descriptor.specs.declared.Desc.TheVariants.{Table}
use Rattle.descriptor.specs.declared.Level.{Level}
use Rattle.descriptor.specs.declared.Level.TheVariants.{Zero, One, Two, Three}
use Rattle.descriptor.specs.Word.{desc_of}
use Rattle.page_state.specs.declared.entry.Entry.{Entry}
use Rattle.page_state.specs.declared.entry.Entry.TheVariants.{Unmapped, Leaf}
use Rattle.page_state.specs.declared.layout.Geometry.{Geometry}
use Rattle.page_state.specs.Entries.{advance, entry_of_word}
use Rattle.page_state.specs.Geometries.{block_pages, input_pages, levels_below}
use Rattle.page_state.specs.Map.{Map}
use Rattle.page_state.specs.Trees.{Tree}
use Rattle.ghost_trees.specs.Trees.{table_of}
use Rattle.c_tables.specs.declared.follow.PlainPage.{PlainPage}
use Rattle.c_tables.specs.declared.reached.Reached.{Reached}

-- the words of a page
abbrev pub words_of : PlainPage → List ℕ
words_of page = page.words.now

-- a page has 512 words
abbrev pub IsWhole : PlainPage → Type 0
IsWhole page = length (words_of page) ≡ 512

-- the page of a frame: the first of the list that has it
abbrev pub page_of : List PlainPage → ℕ → Option PlainPage
page_of pages frame = find (λ p. p.frame == frame) pages

-- the page that a descriptor leads on to: a table's, if its frame has one
abbrev pub led : List PlainPage → Desc → Option PlainPage
led pages (Table frame) = page_of pages frame.0
led pages other = None

-- the level of a table
abbrev pub level_at : ℕ → Level
level_at zero = Three
level_at (suc zero) = Two
level_at (suc (suc zero)) = One
level_at (suc (suc (suc depth))) = Zero

-- the page that a word leads on to; a table of the last level leads on to none
abbrev pub led_at : List PlainPage → ℕ → ℕ → Option PlainPage
led_at pages zero word = None
led_at pages (suc depth) word = led pages (desc_of (level_at (suc depth)) word)

-- `here` if a word doesn't lead on, and else `below` of the page
abbrev pub led_case : {R : Type 0} → R → (PlainPage → R) → Option PlainPage → R
led_case here below led = elim led [ None ↦ here | Some next ↦ below next ]

-- the index of a page in a table (Arm DDI 0487, D8.2)
abbrev pub index_at : ℕ → ℕ → ℕ
index_at depth page = page / block_pages depth % 512

-- what a word that doesn't lead on gives a page: a table word is malformed there
abbrev pub word_gives : ℕ → ℕ → ℕ → Entry
word_gives depth word page =
    advance (entry_of_word (desc_of (level_at depth) word)) (page % block_pages depth)

-- the word of a table on a page's path
abbrev pub word_on : ℕ → PlainPage → ℕ → ℕ
word_on depth table page = get_or (words_of table) (index_at depth page) 0

-- what a table gives a page
unfoldable pub entry_by : List PlainPage → ℕ → PlainPage → ℕ → Entry
entry_by pages zero table page = word_gives zero (word_on zero table page) page
entry_by pages (suc depth) table page =
    led_case (word_gives (suc depth) (word_on (suc depth) table page) page)
    (λ next. entry_by pages depth next page)
    (led_at pages (suc depth) (word_on (suc depth) table page))

-- `f` of each word of a list and its number, one after the other
abbrev pub along : {X : Type 0} → (ℕ → ℕ → List X) → ℕ → List ℕ → List X
along f number [] = []
along f number (word ∷ words) = f number word ++ along f (number + 1) words

-- a table of a tree, at block `number` of those of its level
abbrev pub reached_at : ℕ → ℕ → ℕ → PlainPage → Reached
reached_at tree depth number page =
    record { tree = tree; table = record { block = (depth + 1, number); frame = page.frame } }

-- a table at block `number`, and the tables that its words lead on to, by page, each before those
-- below it
unfoldable pub tables_under : List PlainPage → ℕ → ℕ → ℕ → PlainPage → List Reached
tables_under pages tree zero number page = reached_at tree zero number page ∷ []
tables_under pages tree (suc depth) number page =
    reached_at tree (suc depth) number page
    ∷ along
    (λ part word. led_case [] (λ next. tables_under pages tree depth part next)
    (led_at pages (suc depth) word))
    (number * 512) (words_of page)

-- the map of the tree of a root
unfoldable pub map_by_frames : Geometry → List PlainPage → PlainPage → Map
map_by_frames geometry pages root page =
    if nat_lt page (input_pages geometry) then entry_by pages (levels_below geometry) root page
    else Unmapped

-- the tables of the tree of a root
abbrev pub tables_by_frames : Geometry → List PlainPage → ℕ → PlainPage → List Reached
tables_by_frames geometry pages tree root = tables_under pages tree (levels_below geometry) 0 root

-- both
abbrev pub tree_by_frames : Geometry → List PlainPage → ℕ → PlainPage → Tree
tree_by_frames geometry pages tree root =
    record {
      map = map_by_frames geometry pages root;
      table = table_of (map (λ r. r.table) (tables_by_frames geometry pages tree root));
    }

-- the frame of a leaf is one that a word can say
abbrev pub HasSmallFrame : Entry → Type 0
HasSmallFrame (Leaf frame prot kind state) = frame.0 < 2 ^ 36
HasSmallFrame other = Unit {0}
