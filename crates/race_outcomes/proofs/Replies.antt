-- Whether replies are the same.
use Rattle.std.proofs.Common.{◌≡◌, Bool, List}
use Rattle.std.specs.Prelude.{Decides, Option}
use Rattle.std.specs.Cmp.Lexicographic.{pointwise}
use Rattle.std.proofs.lemmas.Slice.Eq.{slice_eq-Decides}
use Rattle.std.specs.contracts.prelude.OptionPartialEq.TheImpl as options
use Rattle.page_state.proofs.Equality.{Tells, options_tell}
use Rattle.call_table.specs.contracts.reply.Reply as reply_type
use Rattle.call_table.specs.contracts.reply.ReplyPartialEq.TheImpl as replies
use Rattle.call_table.specs.declared.reply.Reply.{Reply}
use Rattle.call_table.proofs.Equality.{replies_tell}

pub told_tell : Tells (options.ghosts reply_type.the_row replies.ghosts replies.dict).eq
told_tell = options_tell reply_type.the_row replies.ghosts replies.dict replies_tell

pub told_same : (a b : List (Option Reply)) (r : Bool)
    → r ≡ pointwise (options.ghosts reply_type.the_row replies.ghosts replies.dict).eq a b
    → Decides r (a ≡ b)
told_same a b r e = slice_eq-Decides told_tell a b r e

pub replies_same : (a b : List Reply) (r : Bool) → r ≡ pointwise replies.ghosts.eq a b → Decides r (a ≡ b)
replies_same a b r e = slice_eq-Decides replies_tell a b r e
