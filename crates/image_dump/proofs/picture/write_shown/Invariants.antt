use Rattle.std.proofs.Common.{◌≡◌, ◌++◌, drop}
use Rattle.std.specs.Prelude.{string_bytes}
use Rattle.std.specs.List.{flat_map}
use Rattle.image_dump.specs.Pictures.{shown, start, text_of_shown}
use Rattle.image_dump.proofs.picture.write_shown.Given as goal

abbrev pub invariant-loop-i : goal.invariant-loop-i
invariant-loop-i l = record {
  rest : string_bytes l.svg ++ flat_map text_of_shown (shown l.findings l.pen (drop l.i l.lines))
      ≡ string_bytes l.initial.svg ++ flat_map text_of_shown (shown l.findings start l.lines);
}
