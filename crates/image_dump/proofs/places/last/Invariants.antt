use Rattle.std.proofs.Common.{◌≡◌, drop}
use Rattle.image_dump.specs.Pictures.{last, start}
use Rattle.image_dump.proofs.places.last.Given as goal

abbrev pub invariant-loop-i : goal.invariant-loop-i
invariant-loop-i l = record { rest : last l.pen (drop l.i l.lines) ≡ last start l.lines }
