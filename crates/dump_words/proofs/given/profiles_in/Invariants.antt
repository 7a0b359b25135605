use Rattle.std.proofs.Common.{map}
use Rattle.dump_words.specs.Words.{profile_of_word}
use Rattle.dump_words.proofs.InTurn.{IsSoFar}
use Rattle.dump_words.proofs.given.profiles_in.Given as goal

abbrev pub invariant-loop-i : goal.invariant-loop-i
invariant-loop-i l = record { so_far : IsSoFar profile_of_word (map (λ word. word.now) l.words) l.i l.found.items }
