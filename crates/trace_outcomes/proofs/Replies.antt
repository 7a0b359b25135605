-- The text of a reply is read as one.
use Rattle.std.proofs.Common.{refl}
use Rattle.call_table.specs.declared.reply.Refusal.TheVariants.{Perm, NoVm, Contended, NoMemory, Busy, Invalid, NoPool, LogFull}
use Rattle.call_table.specs.declared.reply.Reply.TheVariants.{Done, Refused}
use Rattle.call_table.specs.declared.reply.Value.TheVariants.{Nothing, Vm, Frame, Entry, Row}
use Rattle.trace_outcomes.specs.Laws.{RepliesAreRead}

pub replies_are_read : RepliesAreRead
replies_are_read (Done Nothing) = (refl, refl)
replies_are_read (Done (Vm vm)) = (refl, refl)
replies_are_read (Done (Frame frame)) = (refl, refl)
replies_are_read (Done (Entry entry)) = (refl, refl)
replies_are_read (Done (Row row)) = (refl, refl)
replies_are_read (Refused Perm) = (refl, refl)
replies_are_read (Refused NoVm) = (refl, refl)
replies_are_read (Refused Contended) = (refl, refl)
replies_are_read (Refused NoMemory) = (refl, refl)
replies_are_read (Refused Busy) = (refl, refl)
replies_are_read (Refused Invalid) = (refl, refl)
replies_are_read (Refused NoPool) = (refl, refl)
replies_are_read (Refused LogFull) = (refl, refl)
