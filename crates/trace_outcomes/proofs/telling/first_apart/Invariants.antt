use Rattle.std.proofs.Common.{◌≡◌, drop}
use Rattle.trace_outcomes.specs.Races.{texts_in}
use Rattle.trace_outcomes.specs.Told.{first_apart}
use Rattle.trace_outcomes.proofs.telling.first_apart.Given as goal

abbrev pub invariant-loop-place : goal.invariant-loop-place
invariant-loop-place l =
    first_apart (drop l.place l.steps) (drop l.place l.replies) (texts_in (drop l.place l.texts))
    ≡ first_apart l.steps l.replies (texts_in l.texts)
