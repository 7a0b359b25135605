use Rattle.trace_outcomes.proofs.Replies.{replies_are_read}
use Rattle.trace_outcomes.proofs.laws.replies_are_read.Goals as goal

pub returns : goal.returns
returns c = replies_are_read
