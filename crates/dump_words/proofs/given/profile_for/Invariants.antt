use Rattle.dump_words.proofs.InTurn.{IsAhead}
use Rattle.dump_words.proofs.given.profile_for.Given as goal

abbrev pub invariant-loop-i : goal.invariant-loop-i
invariant-loop-i l = record { ahead : IsAhead l.profiles l.tree l.i }
