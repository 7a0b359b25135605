use Rattle.std.proofs.Common.{◌≡◌, length}
use Rattle.race_outcomes.proofs.layer.no_places.Given as goal

abbrev pub invariant-loop : goal.invariant-loop
invariant-loop l = length l.places.items ≡ l.counter
