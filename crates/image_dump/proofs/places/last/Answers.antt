use Rattle.std.proofs.Common.{ap}
use Rattle.image_dump.specs.Pictures.{last, start}
use Rattle.image_dump.proofs.Pictured.{last_all, last_further}
use Rattle.image_dump.proofs.places.last.Goals as goal

pub loop-i-init : goal.loop-i-init
loop-i-init c = record { rest = ap (λ p. last p c.args.lines.now) c.first-pen.ensures }

pub loop-i-preserved : goal.loop-i-preserved
loop-i-preserved c = record {
  rest =
      last_further c.args.lines.now c.loop-i.i _ c.loop-i.pen _ (last start c.args.lines.now)
      c.loop-i-test.true c.loop-i.invariant.rest c.behind-pen.ensures;
}

pub returns : goal.returns
returns c =
    last_all c.args.lines.now c.loop-i.i c.loop-i.pen
    (last start c.args.lines.now) c.loop-i-test.false c.loop-i.invariant.rest
