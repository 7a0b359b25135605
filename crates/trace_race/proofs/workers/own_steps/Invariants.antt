use Rattle.std.proofs.Common.{◌≡◌, ◌+◌, ◌≤◌, drop, length}
use Rattle.trace_race.specs.Made.{steps_of}
use Rattle.trace_race.proofs.workers.own_steps.Given as goal

abbrev pub invariant-loop-i : goal.invariant-loop-i
invariant-loop-i l =
    record {
      few : l.count ≤ l.i;
      sum : l.count + length (steps_of l.cpu (drop l.i l.steps))
          ≡ length (steps_of l.cpu l.steps);
    }
