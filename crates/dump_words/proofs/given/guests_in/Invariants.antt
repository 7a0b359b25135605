use Rattle.std.proofs.Common.{◌≡◌, All, length, map}
use Rattle.dump_words.specs.Words.{IsLowGuest, guest_of}
use Rattle.dump_words.proofs.InTurn.{IsSoFar}
use Rattle.dump_words.proofs.given.guests_in.Given as goal

abbrev pub invariant-loop-i : goal.invariant-loop-i
invariant-loop-i l = record {
  so_far : IsSoFar guest_of (map (λ word. word.now) l.words) l.i l.found.items;
  low : All IsLowGuest l.found.items;
  count : length l.found.items ≡ l.i;
}
