-- How words, owners and replies are written in numbers: fields that have no part in the value are
-- 0.
use Rattle.std.specs.Prelude.{Option, Some, None}
use Rattle.descriptor.specs.declared.Desc.{Desc}
use Rattle.descriptor.specs.declared.Desc.TheVariants as descs
use Rattle.descriptor.specs.declared.Frame.{Frame}
use Rattle.descriptor.specs.declared.Kind.{Kind}
use Rattle.descriptor.specs.declared.Prot.{Prot}
use Rattle.descriptor.specs.declared.State.{State}
use Rattle.page_state.specs.declared.entry.Entry.{Entry}
use Rattle.page_state.specs.declared.entry.Entry.TheVariants.{Unmapped, Malformed, Annotated, Leaf}
use Rattle.page_state.specs.declared.entry.Target.{Target}
use Rattle.page_state.specs.declared.entry.Target.TheVariants as targets
use Rattle.page_state.specs.declared.row.Lent.{Lent}
use Rattle.page_state.specs.declared.row.Row.{Row}
use Rattle.page_state.specs.declared.row.Usage.{Usage}
use Rattle.page_state.specs.declared.row.Usage.TheVariants.{Plain, SharedPool, VmPool, InHand}
use Rattle.call_table.specs.declared.reply.Reply.{Reply}
use Rattle.call_table.specs.declared.reply.Reply.TheVariants.{Done, Refused}
use Rattle.call_table.specs.declared.reply.Value.{Value}
use Rattle.call_table.specs.declared.reply.Value.TheVariants as values
use Rattle.c_words.specs.declared.word.PlainWord.{PlainWord}
use Rattle.c_words.specs.declared.owner.PlainOwner.{PlainOwner}
use Rattle.c_words.specs.declared.reply.PlainReply.{PlainReply}
use Rattle.c_words.specs.Numbers.{rights_written, kind_written, state_written, refusal_written}

-- a word of zeros
abbrev pub blank : PlainWord
blank = record { says = 0; frame = 0; owner = 0; rights = 0; kind = 0; state = 0 }

-- a leaf
abbrev pub leaf_written : Frame → Prot → Kind → State → PlainWord
leaf_written frame prot kind state =
    record blank {
      says = 3;
      frame = frame.0;
      rights = rights_written prot;
      kind = kind_written kind;
      state = state_written state;
    }

-- an entry of a map
abbrev pub entry_written : Entry → PlainWord
entry_written Malformed = blank
entry_written Unmapped = record blank { says = 1 }
entry_written (Annotated owner) = record blank { says = 2; owner = owner.0 }
entry_written (Leaf frame prot kind state) = leaf_written frame prot kind state

-- the target of a run
abbrev pub target_written : Target → PlainWord
target_written targets.Malformed = blank
target_written (targets.Annotated owner) = record blank { says = 2; owner = owner.0 }
target_written (targets.Leaf frame prot kind state) = leaf_written frame prot kind state

-- a descriptor
abbrev pub desc_written : Desc → PlainWord
desc_written descs.Malformed = blank
desc_written descs.Unmapped = record blank { says = 1 }
desc_written (descs.Annotated owner) = record blank { says = 2; owner = owner.0 }
desc_written (descs.Leaf frame prot kind state) = leaf_written frame prot kind state
desc_written (descs.Table frame) = record blank { says = 4; frame = frame.0 }

-- an owner of zeros: the host's, lent to nobody, in no use
abbrev pub plain_owner : PlainOwner
plain_owner =
    record { owner = 0; is_lent = 0; borrower = 0; borrower_page = 0; usage = 0; user = 0 }

-- what holds a frame beside the maps
abbrev pub usage_written : Usage → PlainOwner
usage_written Plain = plain_owner
usage_written SharedPool = record plain_owner { usage = 1 }
usage_written (VmPool slot) = record plain_owner { usage = 2; user = slot }
usage_written (InHand cpu) = record plain_owner { usage = 3; user = cpu }

-- to whom it is lent
abbrev pub lent_written : Option Lent → PlainOwner → PlainOwner
lent_written None o = o
lent_written (Some lent) o =
    record o { is_lent = 1; borrower = lent.owner.0; borrower_page = lent.page }

-- an owner row
abbrev pub row_written : Row → PlainOwner
row_written r = record (lent_written r.lent (usage_written r.usage)) { owner = r.owner.0 }

-- a reply of zeros
abbrev pub done : PlainReply
done =
    record {
      refusal = 0;
      gives = 0;
      slot = 0;
      generation = 0;
      frame = 0;
      entry = blank;
      row = plain_owner;
    }

-- what a call gives on Ok
abbrev pub value_written : Value → PlainReply
value_written values.Nothing = done
value_written (values.Vm vm) = record done { gives = 1; slot = vm.slot; generation = vm.generation }
value_written (values.Frame frame) = record done { gives = 2; frame = frame.0 }
value_written (values.Entry entry) = record done { gives = 3; entry = entry_written entry }
value_written (values.Row row) = record done { gives = 4; row = row_written row }

-- a reply
abbrev pub reply_written : Reply → PlainReply
reply_written (Done value) = value_written value
reply_written (Refused refusal) = record done { refusal = refusal_written refusal }
