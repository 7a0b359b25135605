-- What a word says beyond the model's descriptor, in numbers: table_words' Beyond, whether a leaf
-- says no state, and a leaf that the descriptor lacks.
use Rattle.std.specs.Prelude.{ℕ, ◌+◌, Bool, true, false, Option, Some, None, if◌then◌else◌}
use Rattle.descriptor.specs.declared.State.{State}
use Rattle.table_words.specs.declared.word.Access.{Access}
use Rattle.table_words.specs.declared.word.Access.TheVariants.{Neither, ReadOnly, WriteOnly, ReadWrite}
use Rattle.table_words.specs.declared.word.Decoded.{Decoded}
use Rattle.table_words.specs.declared.word.Decoded.TheVariants as decoded
use Rattle.table_words.specs.declared.word.Execute.{Execute}
use Rattle.table_words.specs.declared.word.Execute.TheVariants.{Nobody, UnprivilegedAlone, PrivilegedAlone}
use Rattle.table_words.specs.declared.word.Guest.{Guest}
use Rattle.table_words.specs.declared.word.Mapping.{Mapping}
use Rattle.table_words.specs.declared.word.Memory.{Memory}
use Rattle.table_words.specs.declared.word.Memory.TheVariants.{Uncached, FromStage1}
use Rattle.table_words.specs.Entries.{is_unreadable, kind_of}
use Rattle.c_words.specs.declared.word.PlainWord.{PlainWord}
use Rattle.c_words.specs.Numbers.{kind_written, state_written}
use Rattle.c_words.specs.Written.{blank}
use Rattle.c_profiles.specs.declared.beyond.PlainBeyond.{PlainBeyond}

-- nothing
abbrev pub nothing_written : PlainBeyond
nothing_written =
    record {
      has_guest = 0;
      handle = 0;
      guest_page = 0;
      is_poisoned = 0;
      is_locked = 0;
      is_cleared = 0;
      is_unreadable = 0;
      is_guarded = 0;
      is_aged = 0;
      is_stateless = 0;
      alone = 0;
      memory = 0;
      leaf = blank;
    }

abbrev pub one_if : Bool → ℕ
one_if b = if b then 1 else 0

-- rights: the sum of 4 for read, 2 for write and 1 for execute
abbrev pub access_written : Access → ℕ
access_written Neither = 0
access_written ReadOnly = 4
access_written WriteOnly = 2
access_written ReadWrite = 6

abbrev pub execute_written : Execute → ℕ
execute_written Nobody = 0
execute_written other = 1

-- who alone may execute: 1 EL0, 2 the level above
abbrev pub alone_written : Execute → ℕ
alone_written UnprivilegedAlone = 1
alone_written PrivilegedAlone = 2
alone_written other = 0

-- Normal memory: 1 not cacheable, 2 as stage 1 says
abbrev pub memory_written : Memory → ℕ
memory_written Uncached = 1
memory_written FromStage1 = 2
memory_written other = 0

abbrev pub option_state_written : Option State → ℕ
option_state_written None = 0
option_state_written (Some state) = state_written state

-- the leaf in numbers; its rights may be without read, and its state is 0 if it says none
abbrev pub mapping_written : Mapping → PlainWord
mapping_written m =
    record blank {
      says = 3;
      frame = m.frame.0;
      rights = access_written m.access + execute_written m.execute;
      kind = kind_written (kind_of m.memory);
      state = option_state_written m.state;
    }

abbrev pub stateless : Option State → Bool
stateless None = true
stateless (Some state) = false

-- what a leaf says beyond
abbrev pub leaf_beyond : Mapping → PlainBeyond
leaf_beyond m =
    record nothing_written {
      is_unreadable = one_if (is_unreadable m.access);
      is_guarded = one_if m.guarded;
      is_aged = one_if m.aged;
      is_stateless = one_if (stateless m.state);
      alone = alone_written m.execute;
      memory = memory_written m.memory;
      leaf = if is_unreadable m.access then mapping_written m else blank;
    }

-- a cleared leaf has all that the leaf had, and the leaf
abbrev pub beyond_written : Decoded → PlainBeyond
beyond_written (decoded.Annotated owner (Some guest)) =
    record nothing_written { has_guest = 1; handle = guest.handle; guest_page = guest.gfn }
beyond_written decoded.Poisoned = record nothing_written { is_poisoned = 1 }
beyond_written decoded.Locked = record nothing_written { is_locked = 1 }
beyond_written (decoded.Cleared m) =
    record (leaf_beyond m) { is_cleared = 1; leaf = mapping_written m }
beyond_written (decoded.Leaf m) = leaf_beyond m
beyond_written other = nothing_written
