use Rattle.std.proofs.Common.{◌≡◌, take}
use Rattle.trace_race.specs.Made.{HasRun}
use Rattle.trace_race.proofs.making.make_first.Given as goal

abbrev pub invariant-loop-i : goal.invariant-loop-i
invariant-loop-i l =
    record {
      layout : l.world.parts.layout ≡ l.fn.world.parts.layout;
      made : HasRun l.fn.world.parts (take l.i l.steps) l.replies.items l.world.parts;
    }
