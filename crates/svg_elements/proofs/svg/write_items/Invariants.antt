use Rattle.std.specs.Prelude.{◌≡◌, ◌++◌, take, string_bytes}
use Rattle.std.specs.List.{flat_map}
use Rattle.svg_elements.specs.Items.{text_of_item}
use Rattle.svg_elements.proofs.svg.write_items.Given as goal

abbrev pub invariant-loop-item : goal.invariant-loop-item
invariant-loop-item l =
    record {
      written : string_bytes l.svg
          ≡ string_bytes l.initial.svg ++ flat_map text_of_item (take l.item-index l.items);
    }
