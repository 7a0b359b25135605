-- What plain words, owners and replies say.
use Rattle.std.specs.Prelude.{◌==◌, Option, Some, None, option_map, option_and_then, if◌then◌else◌}
use Rattle.descriptor.specs.declared.Desc.{Desc}
use Rattle.descriptor.specs.declared.Desc.TheVariants as descs
use Rattle.page_state.specs.declared.entry.Entry.{Entry}
use Rattle.page_state.specs.declared.entry.Entry.TheVariants.{Unmapped, Malformed, Annotated, Leaf}
use Rattle.page_state.specs.declared.entry.Target.{Target}
use Rattle.page_state.specs.declared.row.Lent.{Lent}
use Rattle.page_state.specs.declared.row.Row.{Row}
use Rattle.page_state.specs.declared.row.Usage.{Usage}
use Rattle.page_state.specs.declared.row.Usage.TheVariants.{Plain, SharedPool, VmPool, InHand}
use Rattle.page_state.specs.Entries.{target_of}
use Rattle.call_table.specs.declared.reply.Reply.{Reply}
use Rattle.call_table.specs.declared.reply.Reply.TheVariants.{Done, Refused}
use Rattle.call_table.specs.declared.reply.Value.{Value}
use Rattle.call_table.specs.declared.reply.Value.TheVariants as values
use Rattle.c_words.specs.declared.word.PlainWord.{PlainWord}
use Rattle.c_words.specs.declared.owner.PlainOwner.{PlainOwner}
use Rattle.c_words.specs.declared.reply.PlainReply.{PlainReply}
use Rattle.c_words.specs.Numbers.{rights_from_c, kind_from_c, state_from_c, refusal_from_c}

-- a leaf
abbrev pub leaf_from_c : PlainWord → Option Entry
leaf_from_c w =
    option_and_then
    (λ prot. option_and_then
    (λ kind. option_map (λ state. Leaf (record { 0 = w.frame }) prot kind state)
    (state_from_c w.state))
    (kind_from_c w.kind))
    (rights_from_c w.rights)

-- an entry of a map
abbrev pub entry_from_c : PlainWord → Option Entry
entry_from_c w =
    if w.says == 0 then Some Malformed else if w.says == 1 then Some Unmapped
    else if w.says == 2 then Some (Annotated (record { 0 = w.owner }))
    else if w.says == 3 then leaf_from_c w
    else None

-- the target of a run
abbrev pub target_from_c : PlainWord → Option Target
target_from_c w = option_and_then target_of (entry_from_c w)

-- an entry as a descriptor
abbrev pub desc_of_entry : Entry → Desc
desc_of_entry Malformed = descs.Malformed
desc_of_entry Unmapped = descs.Unmapped
desc_of_entry (Annotated owner) = descs.Annotated owner
desc_of_entry (Leaf frame prot kind state) = descs.Leaf frame prot kind state

-- a descriptor
abbrev pub desc_from_c : PlainWord → Option Desc
desc_from_c w =
    if w.says == 4 then Some (descs.Table (record { 0 = w.frame }))
    else option_map desc_of_entry (entry_from_c w)

-- to whom a frame is lent
abbrev pub lent_from_c : PlainOwner → Option Lent
lent_from_c o =
    if o.is_lent == 0 then None
    else Some (record { owner = record { 0 = o.borrower }; page = o.borrower_page })

-- what holds it beside the maps
abbrev pub usage_from_c : PlainOwner → Option Usage
usage_from_c o =
    if o.usage == 0 then Some Plain else if o.usage == 1 then Some SharedPool
    else if o.usage == 2 then Some (VmPool o.user)
    else if o.usage == 3 then Some (InHand o.user)
    else None

-- an owner row
abbrev pub row_from_c : PlainOwner → Option Row
row_from_c o =
    option_map
    (λ usage. record { owner = record { 0 = o.owner }; lent = lent_from_c o; usage = usage })
    (usage_from_c o)

-- what a call gives on Ok
abbrev pub value_from_c : PlainReply → Option Value
value_from_c r =
    if r.gives == 0 then Some values.Nothing
    else if r.gives == 1 then Some (values.Vm (record { slot = r.slot; generation = r.generation }))
    else if r.gives == 2 then Some (values.Frame (record { 0 = r.frame }))
    else if r.gives == 3 then option_map values.Entry (entry_from_c r.entry)
    else if r.gives == 4 then option_map values.Row (row_from_c r.row) else None

-- a reply
abbrev pub reply_from_c : PlainReply → Option Reply
reply_from_c r =
    if r.refusal == 0 then option_map Done (value_from_c r)
    else option_map Refused (refusal_from_c r.refusal)
