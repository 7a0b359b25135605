-- Changes of some pages of a block, their parts, and the tables that they need. Depths count the
-- levels below, pages the block's.
use Rattle.std.specs.Prelude.{ℕ, ◌-◌, ◌*◌, ◌%◌, ◌<◌, ◌≤◌, ◌==◌, ◌&&◌, ◌||◌, nat_lt, nat_le, min, Bool, if◌then◌else◌}
use Rattle.descriptor.specs.Word.{IsEncodable}
use Rattle.descriptor.specs.declared.Level.TheVariants.{Three}
use Rattle.page_state.specs.declared.entry.Entry.{Entry}
use Rattle.page_state.specs.Entries.{advance, IsRangeEntry, word_of_entry}
use Rattle.page_state.specs.EntryTests.{entry_eq}
use Rattle.page_state.specs.Blocks.{fits_word}
use Rattle.page_state.specs.Geometries.{block_pages}
use Rattle.walk_plan.specs.declared.change.Change.{Change}

-- words of the last level can encode an entry and the entries to which it advances on `n` pages
abbrev pub IsEncodableOn : ℕ → Entry → Type 0
IsEncodableOn n e = (i : ℕ) → i < n → IsEncodable Three (word_of_entry (advance e i))

-- a change of some pages of a block
pub record IsChange (depth : ℕ) (c : Change) : Type 0 where
  pub some : c.first < c.end
  pub within : c.end ≤ block_pages depth
  pub entry : IsRangeEntry (c.end - c.first) c.entry

-- how many pages it changes
abbrev pub pages_of : Change → ℕ
pages_of c = c.end - c.first

-- the entries `m` of a block with a change made
abbrev pub changed_entry : ℕ → (ℕ → Entry) → Change → ℕ → Entry
changed_entry depth m c q =
    if nat_le c.first (q % block_pages depth)
    && nat_lt (q % block_pages depth) c.end
    then advance c.entry (q % block_pages depth - c.first)
    else m q

-- the change restricted to part `i` of its block, whose parts have `depth` levels below them
abbrev pub part : ℕ → ℕ → Change → Change
part depth i c =
    record {
      first = c.first - i * block_pages depth;
      end =
          min (c.end - i * block_pages depth) (block_pages depth);
      entry =
          advance c.entry (i * block_pages depth - c.first);
    }

-- a change of a whole block to an entry that one word can encode
abbrev pub is_whole : ℕ → Change → Bool
is_whole depth c = c.first == 0 && c.end == block_pages depth && fits_word depth c.entry

-- a block without a table whose first page has the entry `x` is one word after a change
abbrev pub stays_one_word : ℕ → Entry → Change → Bool
stays_one_word depth x c = is_whole depth c || entry_eq (advance x c.first) c.entry
