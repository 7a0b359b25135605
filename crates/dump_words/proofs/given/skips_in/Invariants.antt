use Rattle.std.proofs.Common.{map}
use Rattle.dump_words.specs.Words.{skip_of}
use Rattle.dump_words.proofs.InTurn.{IsSoFar}
use Rattle.dump_words.proofs.given.skips_in.Given as goal

abbrev pub invariant-loop-i : goal.invariant-loop-i
invariant-loop-i l = record { so_far : IsSoFar skip_of (map (λ word. word.now) l.words) l.i l.found.items }
