use Rattle.std.proofs.Common.{◌++◌}
use Rattle.trace_watches.specs.Watches.{query_of, word_at}
use Rattle.trace_watches.proofs.Joined.{text_is}
use Rattle.trace_watches.proofs.asking.watched.Goals as goal

pub returns : goal.returns
returns c =
    text_is (λ line. line.now) c.args.lines.now c.args.place c.args.step.now
    (word_at c.args.step.now 0 ++ query_of c.args.watch.line.now) _ _ _
    c.in_ok-text.ensures c.in_ok-add_others.ensures c.in_ok-add_asked.ensures
