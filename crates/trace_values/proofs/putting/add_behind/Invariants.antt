use Rattle.std.proofs.Common.{◌≡◌, ◌++◌, drop, map}
use Rattle.trace_values.specs.Names.{put_behind}
use Rattle.trace_values.proofs.putting.add_behind.Given as goal

abbrev pub invariant-loop-word : goal.invariant-loop-word
invariant-loop-word l =
    l.text.items ++ put_behind l.name l.value (map (λ word. word.now) (drop l.word-index l.words))
    ≡ l.fn.text.items ++ put_behind l.name l.value (map (λ word. word.now) l.words)
