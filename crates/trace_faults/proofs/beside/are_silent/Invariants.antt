use Rattle.std.proofs.Common.{◌≡◌, drop, map}
use Rattle.std.specs.List.{list_all}
use Rattle.trace_words.specs.Words.{is_silent}
use Rattle.trace_faults.proofs.beside.are_silent.Given as goal

abbrev pub invariant-loop-line : goal.invariant-loop-line
invariant-loop-line l =
    list_all is_silent (map (λ line. line.now) l.lines)
    ≡ list_all is_silent (map (λ line. line.now) (drop l.line-index l.lines))
