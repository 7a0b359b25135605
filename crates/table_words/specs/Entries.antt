use Rattle.std.specs.Prelude.{Option, Some, None, Bool, true, false, unwrap_or}
use Rattle.descriptor.specs.declared.Desc.{Desc}
use Rattle.descriptor.specs.declared.Desc.TheVariants as desc
use Rattle.descriptor.specs.declared.Prot.{Prot}
use Rattle.descriptor.specs.declared.Prot.TheVariants.{R, RW, RX, RWX}
use Rattle.descriptor.specs.declared.Kind.{Kind}
use Rattle.descriptor.specs.declared.Kind.TheVariants.{Normal, Device}
use Rattle.descriptor.specs.declared.State.{State}
use Rattle.descriptor.specs.declared.Frame.{Frame}
use Rattle.table_words.specs.declared.entries.Beyond.{Beyond}
use Rattle.table_words.specs.declared.word.Access.{Access}
use Rattle.table_words.specs.declared.word.Access.TheVariants.{Neither, ReadOnly, WriteOnly, ReadWrite}
use Rattle.table_words.specs.declared.word.Execute.{Execute}
use Rattle.table_words.specs.declared.word.Execute.TheVariants.{Nobody, UnprivilegedAlone, PrivilegedAlone}
use Rattle.table_words.specs.declared.word.Memory.{Memory}
use Rattle.table_words.specs.declared.word.Memory.TheVariants.{Uncached, FromStage1, Registers}
use Rattle.table_words.specs.declared.word.Decoded.{Decoded}
use Rattle.table_words.specs.declared.word.Decoded.TheVariants.{Malformed, Annotated, Poisoned, Locked, Cleared, Leaf, Table}

-- The part of a word's meaning that the model has, and the part that it hasn't.

-- the model's rights: it knows no leaf that can't be read, and lets all execute or none
abbrev pub prot_of : Access → Execute → Option Prot
prot_of ReadOnly Nobody = Some R
prot_of ReadOnly execute = Some RX
prot_of ReadWrite Nobody = Some RW
prot_of ReadWrite execute = Some RWX
prot_of access execute = None

-- the model's kind of memory
abbrev pub kind_of : Memory → Kind
kind_of Registers = Device
kind_of memory = Normal

-- the model's leaf of these rights
abbrev pub leaf_entry : Option Prot → Frame → Kind → State → Option Desc
leaf_entry (Some prot) frame kind state = Some (desc.Leaf frame prot kind state)
leaf_entry None frame kind state = None

-- the model's descriptor, with a state for words that say none
abbrev pub entry_of : Decoded → State → Option Desc
entry_of Malformed s = Some desc.Malformed
entry_of (Annotated owner None) s = Some (desc.Annotated owner)
entry_of (Annotated owner (Some guest)) s = None
entry_of (Leaf m) s =
    leaf_entry (prot_of m.access m.execute) m.frame (kind_of m.memory) (unwrap_or m.state s)
entry_of (Table frame) s = Some (desc.Table frame)
entry_of decoded s = Some desc.Unmapped

abbrev pub nothing_beyond : Beyond
nothing_beyond =
    record {
      guest = None;
      poisoned = false;
      locked = false;
      cleared = None;
      unreadable = false;
      alone = None;
      memory = None;
      guarded = false;
      aged = false;
    }

-- whether reads are refused
abbrev pub is_unreadable : Access → Bool
is_unreadable Neither = true
is_unreadable WriteOnly = true
is_unreadable access = false

-- who alone may execute
abbrev pub alone_of : Execute → Option Execute
alone_of UnprivilegedAlone = Some UnprivilegedAlone
alone_of PrivilegedAlone = Some PrivilegedAlone
alone_of execute = None

-- memory that the model takes for plain Normal memory
abbrev pub other_memory : Memory → Option Memory
other_memory Uncached = Some Uncached
other_memory FromStage1 = Some FromStage1
other_memory memory = None

-- what the model's descriptor doesn't say
abbrev pub beyond_of : Decoded → Beyond
beyond_of (Annotated owner g) = record nothing_beyond { guest = g }
beyond_of Poisoned = record nothing_beyond { poisoned = true }
beyond_of Locked = record nothing_beyond { locked = true }
beyond_of (Cleared m) = record nothing_beyond { cleared = Some m }
beyond_of (Leaf m) =
    record nothing_beyond {
      unreadable = is_unreadable m.access;
      alone = alone_of m.execute;
      memory = other_memory m.memory;
      guarded = m.guarded;
      aged = m.aged;
    }
beyond_of decoded = nothing_beyond
