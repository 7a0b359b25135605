-- What is written says what it was written for.
use Rattle.std.proofs.Common.{◌≡◌, Option, Some, None, ap, refl}
use Rattle.std.specs.Prelude.{option_map, option_and_then}
use Rattle.descriptor.specs.declared.Desc.TheVariants as descs
use Rattle.descriptor.specs.declared.Frame.{Frame}
use Rattle.descriptor.specs.declared.Kind.{Kind}
use Rattle.descriptor.specs.declared.Kind.TheVariants.{Normal, Device}
use Rattle.descriptor.specs.declared.Owner.{Owner}
use Rattle.descriptor.specs.declared.Prot.{Prot}
use Rattle.descriptor.specs.declared.Prot.TheVariants.{R, RW, RX, RWX}
use Rattle.descriptor.specs.declared.State.{State}
use Rattle.descriptor.specs.declared.State.TheVariants.{Owned, SharedOwned, SharedBorrowed}
use Rattle.page_state.specs.declared.entry.Entry.TheVariants.{Unmapped, Malformed, Annotated, Leaf}
use Rattle.page_state.specs.declared.entry.Target.TheVariants as targets
use Rattle.page_state.specs.declared.row.Lent.{Lent}
use Rattle.page_state.specs.declared.row.Usage.{Usage}
use Rattle.page_state.specs.declared.row.Usage.TheVariants.{Plain, SharedPool, VmPool, InHand}
use Rattle.page_state.specs.Entries.{target_of}
use Rattle.call_table.specs.declared.reply.Refusal.TheVariants.{Perm, NoVm, Contended, NoMemory, Busy, Invalid, NoPool, LogFull}
use Rattle.call_table.specs.declared.reply.Reply.TheVariants.{Done, Refused}
use Rattle.call_table.specs.declared.reply.Value.{Value}
use Rattle.call_table.specs.declared.reply.Value.TheVariants as values
use Rattle.c_words.specs.Laws.{DescsRoundTrip, EntriesRoundTrip, RepliesRoundTrip, RowsRoundTrip, TargetsRoundTrip}
use Rattle.c_words.specs.Numbers.{kind_from_c, kind_written, rights_from_c, rights_written, state_from_c, state_written}
use Rattle.c_words.specs.Said.{desc_of_entry, leaf_from_c, row_from_c, value_from_c}
use Rattle.c_words.specs.Written.{leaf_written, row_written, value_written}

rights_says : (prot : Prot) → rights_from_c (rights_written prot) ≡ Some prot
rights_says R = refl
rights_says RX = refl
rights_says RW = refl
rights_says RWX = refl

kind_says : (kind : Kind) → kind_from_c (kind_written kind) ≡ Some kind
kind_says Normal = refl
kind_says Device = refl

state_says : (state : State) → state_from_c (state_written state) ≡ Some state
state_says Owned = refl
state_says SharedOwned = refl
state_says SharedBorrowed = refl

leaf_says : (frame : Frame) (prot : Prot) (kind : Kind) (state : State)
    → leaf_from_c (leaf_written frame prot kind state) ≡ Some (Leaf frame prot kind state)
leaf_says frame prot kind state = rw (rights_says prot) (rw (kind_says kind) (rw (state_says state) refl))

pub entries_said : EntriesRoundTrip
entries_said Malformed = refl
entries_said Unmapped = refl
entries_said (Annotated owner) = refl
entries_said (Leaf frame prot kind state) = leaf_says frame prot kind state

pub targets_said : TargetsRoundTrip
targets_said targets.Malformed = refl
targets_said (targets.Annotated owner) = refl
targets_said (targets.Leaf frame prot kind state) = ap (option_and_then target_of) (leaf_says frame prot kind state)

pub descs_said : DescsRoundTrip
descs_said descs.Malformed = refl
descs_said descs.Unmapped = refl
descs_said (descs.Annotated owner) = refl
descs_said (descs.Leaf frame prot kind state) = ap (option_map desc_of_entry) (leaf_says frame prot kind state)
descs_said (descs.Table frame) = refl

row_says : (owner : Owner) (lent : Option Lent) (usage : Usage)
    → row_from_c (row_written (record { owner = owner; lent = lent; usage = usage }))
    ≡ Some (record { owner = owner; lent = lent; usage = usage })
row_says owner None Plain = refl
row_says owner None SharedPool = refl
row_says owner None (VmPool slot) = refl
row_says owner None (InHand cpu) = refl
row_says owner (Some lent) Plain = refl
row_says owner (Some lent) SharedPool = refl
row_says owner (Some lent) (VmPool slot) = refl
row_says owner (Some lent) (InHand cpu) = refl

pub rows_from_c : RowsRoundTrip
rows_from_c row = row_says row.owner row.lent row.usage

value_says : (value : Value) → value_from_c (value_written value) ≡ Some value
value_says values.Nothing = refl
value_says (values.Vm vm) = refl
value_says (values.Frame frame) = refl
value_says (values.Entry entry) = ap (option_map values.Entry) (entries_said entry)
value_says (values.Row row) = ap (option_map values.Row) (rows_from_c row)

done_says : (value : Value) → (value_written value).refusal ≡ 0
done_says values.Nothing = refl
done_says (values.Vm vm) = refl
done_says (values.Frame frame) = refl
done_says (values.Entry entry) = refl
done_says (values.Row row) = refl

pub replies_said : RepliesRoundTrip
replies_said (Done value) = rw (done_says value) (ap (option_map Done) (value_says value))
replies_said (Refused Perm) = refl
replies_said (Refused NoVm) = refl
replies_said (Refused Contended) = refl
replies_said (Refused NoMemory) = refl
replies_said (Refused Busy) = refl
replies_said (Refused Invalid) = refl
replies_said (Refused NoPool) = refl
replies_said (Refused LogFull) = refl
