-- The reply that numbers say, which the model may not have.
use Rattle.std.specs.Prelude.{◌==◌, ℕ, Option, Some, None, if◌then◌else◌}
use Rattle.call_table.specs.declared.reply.Reply.{Reply}
use Rattle.c_words.specs.declared.reply.PlainReply.{PlainReply}
use Rattle.c_words.specs.Said.{reply_from_c}
use Rattle.c_judge.specs.declared.reply.Said.{Said}
use Rattle.c_judge.specs.declared.reply.Said.TheVariants.{Known, Refusal, Stopped}

-- a reply that the model has, or a refusal by another number
abbrev pub known_or : ℕ → Option Reply → Option Said
known_or n (Some reply) = Some (Known reply)
known_or n None = if n == 0 then None else Some (Refusal n)

-- a call that stopped the machine is 65536 in place of a refusal
abbrev pub said_of : PlainReply → Option Said
said_of r = if r.refusal == 65536 then Some Stopped else known_or r.refusal (reply_from_c r)
