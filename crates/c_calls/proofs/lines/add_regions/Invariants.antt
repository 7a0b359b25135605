use Rattle.std.proofs.Common.{◌≡◌, ◌++◌, take, map}
use Rattle.std.specs.Prelude.{string_bytes}
use Rattle.c_calls.specs.Lines.{region_line, text_of_lines}
use Rattle.c_calls.proofs.lines.add_regions.Given as goal

-- the lines of the regions so far are added
abbrev pub invariant-loop-region : goal.invariant-loop-region
invariant-loop-region l =
    record {
      added : string_bytes l.text
          ≡ string_bytes l.initial.text ++ text_of_lines (map region_line (take l.region-index l.regions));
    }
