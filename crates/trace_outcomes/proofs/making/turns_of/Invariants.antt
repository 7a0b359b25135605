use Rattle.std.proofs.Common.{◌≡◌, ◌++◌, drop}
use Rattle.trace_outcomes.specs.Races.{texts_in, turns_of}
use Rattle.trace_outcomes.proofs.making.turns_of.Given as goal

abbrev pub invariant-loop-place : goal.invariant-loop-place
invariant-loop-place l =
    l.turns.items ++ turns_of (drop l.place l.steps) (texts_in (drop l.place l.texts))
    ≡ turns_of l.steps (texts_in l.texts)
