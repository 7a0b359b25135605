use Rattle.std.proofs.Common.{◌≡◌, ◌++◌, drop, map}
use Rattle.trace_cover.specs.declared.rows.Row.TheVariants.{Reply}
use Rattle.trace_cover.proofs.rows.add_replies.Given as goal

abbrev pub invariant-loop-why : goal.invariant-loop-why
invariant-loop-why l =
    l.rows.items ++ map (Reply l.call) (drop l.why-index l.replies) ≡ l.fn.rows.items ++ map (Reply l.call) l.replies
