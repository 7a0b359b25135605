use Rattle.std.specs.Prelude.{string_bytes}
use Rattle.svg_elements.specs.Items.{text_of_patterns}
use Rattle.svg_elements.proofs.Joined.{text_further, text_whole}
use Rattle.svg_elements.proofs.svg.write_patterns.Goals as goal

pub loop-i-preserved : goal.loop-i-preserved
loop-i-preserved c = record {
  written =
      text_further text_of_patterns c.args.colours.now c.loop-i.i _ (string_bytes c.args.svg.now)
      (string_bytes c.loop-i.svg) (string_bytes c.write_patterns_of.new.svg)
      c.loop-i-test.true c.loop-i.invariant.written c.in_ok-write_patterns_of.ensures;
}

pub returns : goal.returns
returns c =
    text_whole text_of_patterns c.args.colours.now c.loop-i.i (string_bytes c.args.svg.now)
    (string_bytes c.loop-i.svg) c.loop-i-test.false c.loop-i.invariant.written
