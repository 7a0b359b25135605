use Rattle.std.specs.Prelude.{◌≡◌, ◌++◌, take, string_bytes}
use Rattle.std.specs.List.{flat_map}
use Rattle.svg_elements.specs.Items.{escaped}
use Rattle.svg_elements.proofs.svg.write_escaped.Given as goal

abbrev pub invariant-loop-byte : goal.invariant-loop-byte
invariant-loop-byte l =
    record { written : string_bytes l.svg ≡ string_bytes l.initial.svg ++ flat_map escaped (take l.byte-index l.bytes) }
