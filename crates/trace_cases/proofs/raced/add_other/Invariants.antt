use Rattle.std.proofs.Common.{◌≡◌, drop, map}
use Rattle.trace_check.specs.View.{misses_in}
use Rattle.trace_cases.specs.Races.{other_missed}
use Rattle.trace_cases.proofs.raced.add_other.Given as goal

abbrev pub invariant-loop-outcome : goal.invariant-loop-outcome
invariant-loop-outcome l = record {
  missed : misses_in l.missed.items ≡ misses_in l.fn.missed.items;
  left :
      other_missed l.steps l.number l.text (map (λ v. v.items) l.wanted) l.place (drop l.outcome-index l.found)
      ≡ other_missed l.steps l.number l.text (map (λ v. v.items) l.wanted) l.place l.found;
}
