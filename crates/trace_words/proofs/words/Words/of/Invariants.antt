use Rattle.std.proofs.Common.{map}
use Rattle.trace_words.specs.Words.{AreKept}
use Rattle.trace_words.proofs.words.Words.of.Given as goal

abbrev pub invariant-loop-word : goal.invariant-loop-word
invariant-loop-word l = AreKept (λ word. word.now) l.kept.items l.count l.has_empty (map (λ word. word.now) l.yielded)
