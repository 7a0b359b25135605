use Rattle.std.specs.Prelude.{string_bytes}
use Rattle.svg_elements.specs.Items.{text_of_item}
use Rattle.svg_elements.proofs.Joined.{text_more, text_whole}
use Rattle.svg_elements.proofs.svg.write_items.Goals as goal

pub loop-item-preserved : goal.loop-item-preserved
loop-item-preserved c = record {
  written =
      text_more text_of_item c.args.items.now c.loop-item.item-index c.item-item.result (string_bytes c.args.svg.now)
      (string_bytes c.loop-item.svg) (string_bytes c.write_item.new.svg)
      c.loop-item-test.true c.item-item.is c.loop-item.invariant.written c.in_ok-write_item.ensures;
}

pub returns : goal.returns
returns c =
    text_whole text_of_item c.args.items.now c.loop-item.item-index (string_bytes c.args.svg.now)
    (string_bytes c.loop-item.svg) c.loop-item-test.false c.loop-item.invariant.written
