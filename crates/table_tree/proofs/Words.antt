use Rattle.std.proofs.Common.{◌≡◌, ℕ, ◌^◌, ◌<◌, refl, arith}
use Rattle.descriptor.specs.declared.Level.{Level}
use Rattle.descriptor.specs.declared.Desc.{Desc}
use Rattle.descriptor.specs.declared.Desc.TheVariants.{Malformed as malformed_word, Unmapped as unmapped_word, Annotated as annotated_word, Leaf as leaf_word, Table as table_word}
use Rattle.descriptor.specs.Word.{desc_of, DecodesTo, IsEncodable}
use Rattle.page_state.specs.declared.entry.Entry.{Entry}
use Rattle.page_state.specs.declared.entry.Entry.TheVariants.{Unmapped, Malformed, Annotated, Leaf}
use Rattle.page_state.specs.Entries.{CanAdvance, entry_of_word, word_of_entry}
use Rattle.table_tree.specs.Meaning.{word_entry}
use Rattle.table_tree.specs.Shape.{IsWellFormed, IsEntryWord, HasSmallFrame}

pub said_entry : (l : Level) (w : ℕ) (d : Desc)
    → DecodesTo l w d
    → IsWellFormed (entry_of_word d)
    → IsEncodable l (word_of_entry (entry_of_word d))
said_entry l w malformed_word h e = absurd e
said_entry l w unmapped_word h e = tt
said_entry l w (annotated_word o) h e = (h.from_one, h.byte)
said_entry l w (leaf_word f p k s) h e = let x = h.frame_is in (h.form.leaves, omega arith, h.aligned)
said_entry l w (table_word f) h e = absurd e

pub small_entry : (l : Level) (w : ℕ) (d : Desc) → DecodesTo l w d → HasSmallFrame (entry_of_word d)
small_entry l w malformed_word h = tt
small_entry l w unmapped_word h = tt
small_entry l w (annotated_word o) h = tt
small_entry l w (leaf_word f p k s) h = let x = h.frame_is in omega arith
small_entry l w (table_word f) h = tt

pub can_advance : (e : Entry) (n : ℕ) → HasSmallFrame e → n < 2 ^ 36 → CanAdvance e n
can_advance Unmapped n h p = tt
can_advance Malformed n h p = tt
can_advance (Annotated o) n h p = tt
can_advance (Leaf f a k s) n h p = omega arith

-- an entry is that of what a word says that gives it
pub entry_back : (e : Entry) → entry_of_word (word_of_entry e) ≡ e
entry_back Unmapped = refl
entry_back Malformed = refl
entry_back (Annotated o) = refl
entry_back (Leaf f p k s) = refl

pub said_formed : (l : Level) (e : Entry) → IsEncodable l (word_of_entry e) → IsWellFormed e
said_formed l Unmapped h = tt
said_formed l Malformed h = h
said_formed l (Annotated o) h = tt
said_formed l (Leaf f p k s) h = tt

pub zero_said : (d : ℕ) → IsEntryWord d 0
unfolding desc_of
zero_said d = (omega arith, tt)

pub zero_entry : (d q : ℕ) → word_entry d q 0 ≡ Unmapped
unfolding desc_of
zero_entry d q = refl
