use Rattle.std.proofs.Common.{◌++◌, ap}
use Rattle.std.specs.Prelude.{string_bytes}
use Rattle.std.specs.List.{flat_map}
use Rattle.image_dump.specs.Pictures.{shown, text_of_shown}
use Rattle.image_dump.proofs.Pictured.{shown_all, shown_further}
use Rattle.image_dump.proofs.picture.write_shown.Goals as goal

pub loop-i-init : goal.loop-i-init
loop-i-init c = record {
  rest =
      ap (λ p. string_bytes c.args.svg.now ++ flat_map text_of_shown (shown c.args.findings.now p c.args.lines.now))
      c.first-pen.ensures;
}

pub loop-i-preserved : goal.loop-i-preserved
loop-i-preserved c = record {
  rest =
      shown_further c.args.findings.now c.args.lines.now c.loop-i.i _ c.loop-i.pen _ (string_bytes c.loop-i.svg)
      (string_bytes c.write_line.new.svg) _ c.loop-i-test.true c.loop-i.invariant.rest
      c.in_ok-write_line.ensures c.behind-pen.ensures;
}

pub returns : goal.returns
returns c =
    shown_all c.args.findings.now c.args.lines.now c.loop-i.i c.loop-i.pen
    (string_bytes c.loop-i.svg) _ c.loop-i-test.false c.loop-i.invariant.rest
