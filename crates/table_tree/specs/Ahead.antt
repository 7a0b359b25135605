-- Words that continue a run.
use Rattle.std.specs.Prelude.{◌≡◌, ℕ, ◌+◌, ◌*◌, ◌^◌, ◌<◌}
use Rattle.descriptor.specs.Word.{desc_of}
use Rattle.page_state.specs.declared.entry.Entry.{Entry}
use Rattle.page_state.specs.Entries.{advance, entry_of_word}
use Rattle.page_state.specs.Geometries.{block_pages}
use Rattle.table_tree.specs.Meaning.{level_at}

-- the entry that a word gives the first page of its block, in a table with `depth` levels below it
abbrev pub gives : ℕ → ℕ → Entry
gives depth word = entry_of_word (desc_of (level_at depth) word)

-- from a word that gives the entry, the words `step` apart give the entries to which it advances,
-- to the end of the table
pub record GoesAhead (depth : ℕ) (entry : Entry) (step : ℕ) : Type 0 where
  pub ahead : (word k : ℕ)
      → word < 2 ^ 64
      → gives depth word ≡ entry
      → k < 512
      → gives depth (word + k * step) ≡ advance entry (k * block_pages depth)
  pub room : (word : ℕ) → word < 2 ^ 64 → gives depth word ≡ entry → word + 512 * step < 2 ^ 64
