use Rattle.std.proofs.Common.{◌≡◌, ◌++◌, drop}
use Rattle.trace_outcomes.specs.Texts.{replies_text}
use Rattle.trace_outcomes.proofs.writing.add_replies.Given as goal

abbrev pub invariant-loop-place : goal.invariant-loop-place
invariant-loop-place l =
    l.text.items ++ replies_text l.replies l.place (drop l.place l.steps) (drop l.place l.varied)
    ≡ l.fn.text.items ++ replies_text l.replies 0 l.steps l.varied
