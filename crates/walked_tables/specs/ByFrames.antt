-- The map of a tree whose tables lie in pages, by a profile: a table word leads on to the page of
-- its frame, if there is one. Depths count the levels below.
use Rattle.std.specs.Prelude.{◌≡◌, ℕ, zero, suc, ◌+◌, ◌*◌, ◌/◌, ◌%◌, ◌==◌, nat_lt, List, [], ◌∷◌, ◌++◌, take, get_or, length, find, slice_get, Option, Some, None, if◌then◌else◌}
use Rattle.descriptor.specs.declared.Level.{Level}
use Rattle.descriptor.specs.declared.Level.TheVariants.{Zero, One, Two, Three}
use Rattle.page_state.specs.Geometries.{block_pages}
use Rattle.run_list.specs.Runs.{option_advance}
use Rattle.table_words.specs.declared.profile.Profile.{Profile}
use Rattle.table_words.specs.declared.word.Decoded.{Decoded}
use Rattle.table_words.specs.declared.word.Decoded.TheVariants.{Table}
use Rattle.table_words.specs.Decoding.{decoded_of}
use Rattle.walked_tables.specs.declared.follow.TablePage.{TablePage}
use Rattle.walked_tables.specs.declared.reached.Reached.{Reached}
use Rattle.walked_tables.specs.declared.said.Said.{Said}
use Rattle.walked_tables.specs.Values.{advance_said, value_of}

-- the words of a page
abbrev pub words_of : TablePage → List ℕ
words_of page = page.words.now

-- a page has 512 words
abbrev pub IsWhole : TablePage → Type 0
IsWhole page = length (words_of page) ≡ 512

-- the page of a frame: the first of the list that has it
abbrev pub page_of : List TablePage → ℕ → Option TablePage
page_of pages frame = find (λ p. p.frame == frame) pages

-- the page that a word leads on to: a table's, if its frame has one
abbrev pub led : List TablePage → Decoded → Option TablePage
led pages (Table frame) = page_of pages frame.0
led pages other = None

-- how many words of a table addresses reach (Arm DDI 0487, D8.2): nine bits of an address are the
-- index, but at level -1, with four levels below, bits 51:48
abbrev pub slots_at : ℕ → ℕ
slots_at depth = if nat_lt depth 4 then 512 else 16

-- these words
abbrev pub reached_words : ℕ → List ℕ → List ℕ
reached_words depth words = if nat_lt depth 4 then words else take 16 words

-- the pages that they are for
abbrev pub table_pages : ℕ → ℕ
table_pages depth = slots_at depth * block_pages depth

-- how many pages a root may have: at level -1 none are concatenated
abbrev pub most_pages : ℕ → ℕ
most_pages depth = if nat_lt depth 4 then 16 else 1

-- the level of a table, for what its words say: level -1 has the words of level 0, tables alone
abbrev pub level_at : ℕ → Level
level_at zero = Three
level_at (suc zero) = Two
level_at (suc (suc zero)) = One
level_at (suc (suc (suc depth))) = Zero

-- `here` if a word doesn't lead on, and else `below` of the page
abbrev pub led_case : {R : Type 0} → R → (TablePage → R) → Option TablePage → R
led_case here below led = elim led [ None ↦ here | Some next ↦ below next ]

-- the index of a page in a table (Arm DDI 0487, D8.2)
abbrev pub index_at : ℕ → ℕ → ℕ
index_at depth page = page / block_pages depth % 512

-- the word of a table on a page's path
abbrev pub word_on : ℕ → TablePage → ℕ → ℕ
word_on depth table page = get_or (words_of table) (index_at depth page) 0

-- `f` of each word of a list and its number, one after the other
abbrev pub along : {X W : Type 0} → (ℕ → W → List X) → ℕ → List W → List X
along f number [] = []
along f number (word ∷ words) = f number word ++ along f (number + 1) words

-- a table of a tree, at block `number` of those of its level
abbrev pub reached_at : ℕ → ℕ → ℕ → TablePage → Reached
reached_at tree depth number page =
    record { tree = tree; depth = depth; number = number; frame = page.frame }

-- the page that a word leads on to; a table of the last level leads on to none
abbrev pub led_at : Profile → List TablePage → ℕ → ℕ → Option TablePage
led_at profile pages zero word = None
led_at profile pages (suc depth) word = led pages (decoded_of profile (level_at (suc depth)) word)

-- what a word that doesn't lead on gives a page
abbrev pub word_gives : Profile → ℕ → ℕ → ℕ → Option Said
word_gives profile depth word page =
    option_advance advance_said (value_of (decoded_of profile (level_at depth) word))
    (page % block_pages depth)

-- what a table gives a page
unfoldable pub said_by : Profile → List TablePage → ℕ → TablePage → ℕ → Option Said
said_by profile pages zero table page = word_gives profile zero (word_on zero table page) page
said_by profile pages (suc depth) table page =
    led_case (word_gives profile (suc depth) (word_on (suc depth) table page) page)
    (λ next. said_by profile pages depth next page)
    (led_at profile pages (suc depth) (word_on (suc depth) table page))

-- a table, and the tables that its words lead on to, by page, each before those below it
unfoldable pub tables_under : Profile → List TablePage → ℕ → ℕ → ℕ → TablePage → List Reached
tables_under profile pages tree zero number page = reached_at tree zero number page ∷ []
tables_under profile pages tree (suc depth) number page =
    reached_at tree (suc depth) number page
    ∷ along
    (λ part word. led_case [] (λ next. tables_under profile pages tree depth part next)
    (led_at profile pages (suc depth) word))
    (number * 512) (reached_words (suc depth) (words_of page))

-- what a page has by the root's pages, which are concatenated in order (Arm DDI 0487, D8.2,
-- "Concatenated translation tables")
unfoldable pub map_by_frames : Profile → List TablePage → ℕ → List TablePage → ℕ → Option Said
map_by_frames profile pages depth roots page =
    led_case None (λ root. said_by profile pages depth root page)
    (slice_get roots (page / table_pages depth))

-- the tables of all the root's pages
unfoldable pub tables_by_frames : Profile → List TablePage → ℕ → ℕ → List TablePage → List Reached
tables_by_frames profile pages tree depth roots =
    along (tables_under profile pages tree depth) 0 roots
