-- The map of a tree whose tables lie in memory: a table word leads on to the page of its frame, if
-- there is one. Depths count the levels below.
use Rattle.std.specs.Prelude.{ℕ, zero, suc, ◌+◌, ◌/◌, nat_lt, List, get_or, Option, Some, None, if◌then◌else◌}
use Rattle.table_words.specs.declared.profile.Profile.{Profile}
use Rattle.table_words.specs.declared.word.Decoded.{Decoded}
use Rattle.table_words.specs.declared.word.Decoded.TheVariants.{Table}
use Rattle.table_words.specs.Decoding.{decoded_of}
use Rattle.walked_tables.specs.ByFrames.{index_at, level_at, table_pages, word_gives}
use Rattle.walked_tables.specs.declared.said.Said.{Said}
use Rattle.image_trees.specs.declared.root.Root.{Root}

-- `here` if a word doesn't lead on, and else `below` of the words of the page
abbrev pub below_case : {R : Type 0} → R → (List ℕ → R) → Option (List ℕ) → R
below_case here below None = here
below_case here below (Some words) = below words

-- the words of the page that a word leads on to: a table's, if its frame has one
abbrev pub leads : (ℕ → Option (List ℕ)) → Decoded → Option (List ℕ)
leads read (Table frame) = read frame.0
leads read other = None

-- what a table gives a page
unfoldable pub image_said : Profile → (ℕ → Option (List ℕ)) → ℕ → List ℕ → ℕ → Option Said
image_said profile read zero words page =
    word_gives profile zero (get_or words (index_at zero page) 0) page
image_said profile read (suc depth) words page =
    let word = get_or words (index_at (suc depth) page) 0 in
    below_case (word_gives profile (suc depth) word page)
    (λ next. image_said profile read depth next page)
    (leads read (decoded_of profile (level_at (suc depth)) word))

-- the words of the root's pages
abbrev pub root_words : (ℕ → Option (List ℕ)) → Root → ℕ → Option (List ℕ)
root_words read root k = if nat_lt k root.count then read (root.frame + k) else None

-- what a page has by the root's pages, which are concatenated in order (Arm DDI 0487, D8.2,
-- "Concatenated translation tables")
unfoldable pub image_map : (ℕ → Option (List ℕ)) → Root → ℕ → Option Said
image_map read root page =
    below_case None (λ words. image_said root.profile read root.depth words page)
    (root_words read root (page / table_pages root.depth))
