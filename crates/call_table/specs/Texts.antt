-- How VMs, values, refusals and replies are written (profile): frames in hexadecimal, all else in
-- decimal.
use Rattle.std.specs.Prelude.{ℕ, List, [], ◌++◌, codes}
use Rattle.std.specs.Fmt.{decimal}
use Rattle.page_state.specs.Texts.{text_of_page, text_of_entry, text_of_row}
use Rattle.call_table.specs.declared.reply.Refusal.{Refusal}
use Rattle.call_table.specs.declared.reply.Refusal.TheVariants.{Perm, NoVm, Contended, NoMemory, Busy, Invalid, NoPool, LogFull}
use Rattle.call_table.specs.declared.reply.Reply.{Reply}
use Rattle.call_table.specs.declared.reply.Reply.TheVariants.{Done, Refused}
use Rattle.call_table.specs.declared.reply.Value.{Value}
use Rattle.call_table.specs.declared.reply.Value.TheVariants.{Nothing, Vm, Frame as frame_value, Entry as entry_value, Row as row_value}
use Rattle.call_table.specs.declared.step.VmId.{VmId}

-- a VM: its slot and its generation
abbrev pub text_of_vm : VmId → List ℕ
text_of_vm vm = decimal vm.slot ++ codes "." ++ decimal vm.generation

abbrev pub text_of_value : Value → List ℕ
text_of_value Nothing = []
text_of_value (Vm vm) = codes "vm " ++ text_of_vm vm
text_of_value (frame_value frame) = codes "frame " ++ text_of_page frame.0
text_of_value (entry_value entry) = codes "entry " ++ text_of_entry entry
text_of_value (row_value row) = text_of_row row

abbrev pub text_of_refusal : Refusal → List ℕ
text_of_refusal Perm = codes "perm"
text_of_refusal NoVm = codes "novm"
text_of_refusal NoMemory = codes "nomemory"
text_of_refusal Busy = codes "busy"
text_of_refusal Invalid = codes "invalid"
text_of_refusal NoPool = codes "nopool"
text_of_refusal LogFull = codes "logfull"
text_of_refusal Contended = codes "contended"

-- a reply: ok with the value, or the refusal
abbrev pub text_of_reply : Reply → List ℕ
text_of_reply (Done Nothing) = codes "ok"
text_of_reply (Done value) = codes "ok " ++ text_of_value value
text_of_reply (Refused refusal) = text_of_refusal refusal
