use Rattle.std.proofs.Common.{◌≡◌, ◌++◌, drop, map}
use Rattle.trace_outcomes.specs.Texts.{behind_bars}
use Rattle.trace_outcomes.proofs.writing.add_behind.Given as goal

abbrev pub invariant-loop-kind : goal.invariant-loop-kind
invariant-loop-kind l =
    l.text.items ++ behind_bars (map (λ v. v.items) (drop l.kind-index l.kinds))
    ≡ l.fn.text.items ++ behind_bars (map (λ v. v.items) l.kinds)
