use Rattle.std.specs.Prelude.{◌≡◌, ◌++◌, take, string_bytes}
use Rattle.std.specs.List.{flat_map}
use Rattle.svg_elements.specs.Items.{text_of_patterns}
use Rattle.svg_elements.proofs.svg.write_patterns.Given as goal

abbrev pub invariant-loop-i : goal.invariant-loop-i
invariant-loop-i l = record {
  written : string_bytes l.svg
      ≡ string_bytes l.initial.svg ++ flat_map text_of_patterns (take l.i l.colours);
}
