use Rattle.std.proofs.Common.{sym, get_or}
use Rattle.std.proofs.lemmas.Grind.{get_or_default_zero}
use Rattle.std.specs.Prelude.{string_bytes}
use Rattle.svg_elements.specs.Items.{escaped}
use Rattle.svg_elements.proofs.Joined.{text_more, text_whole}
use Rattle.svg_elements.proofs.svg.write_escaped.Goals as goal

pub loop-byte-preserved : goal.loop-byte-preserved
loop-byte-preserved c = record {
  written =
      text_more escaped c.args.bytes.now c.loop-byte.byte-index (get_or c.args.bytes.now c.loop-byte.byte-index 0)
      (string_bytes c.args.svg.now) (string_bytes c.loop-byte.svg) (string_bytes c.write_byte.new.svg)
      c.loop-byte-test.true
      (sym
      (get_or_default_zero c.args.bytes.now c.loop-byte.byte-index
      (get_or c.args.bytes.now c.loop-byte.byte-index
      0) c.loop-byte-test.true)) c.loop-byte.invariant.written c.in_ok-write_byte.ensures;
}

pub returns : goal.returns
returns c =
    text_whole escaped c.args.bytes.now c.loop-byte.byte-index (string_bytes c.args.svg.now)
    (string_bytes c.loop-byte.svg) c.loop-byte-test.false c.loop-byte.invariant.written
