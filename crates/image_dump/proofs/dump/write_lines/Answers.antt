use Rattle.std.proofs.Common.{subst, ap}
use Rattle.std.specs.Io.KnownBytes.{Appends}
use Rattle.image_dump.specs.Dumped.{text_of_lines}
use Rattle.image_dump.proofs.Collected.{more_written, none_written, taken_all}
use Rattle.image_dump.proofs.dump.write_lines.Goals as goal

pub loop-i-init : goal.loop-i-init
loop-i-init g c = none_written (g.W.Write.contents c.args.writer.now) c.args.lines.now

pub loop-i-preserved : goal.loop-i-preserved
loop-i-preserved g c =
    more_written (g.W.Write.contents c.args.writer.now) (g.W.Write.contents c.loop-i.writer)
    (g.W.Write.contents c.write_line.new.writer) c.args.lines.now c.loop-i.i _ c.loop-i-test.true c.loop-i.invariant
    c.in_ok-write_line.ensures

pub returns : goal.returns
returns g c =
    subst (Appends (g.W.Write.contents c.args.writer.now) (g.W.Write.contents c.loop-i.writer))
    (ap text_of_lines (taken_all c.args.lines.now c.loop-i.i c.loop-i-test.false)) c.loop-i.invariant
