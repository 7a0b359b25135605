use Rattle.image_dump.specs.declared.line.DumpLine.TheVariants.{Finding as FindingOf}
use Rattle.image_dump.proofs.Lines.{all_told, more_told, none_told}
use Rattle.image_dump.proofs.collect.add_findings.Goals as goal

pub loop-i-init : goal.loop-i-init
loop-i-init c = none_told (λ finding. FindingOf finding) c.args.findings.now c.args.lines.now.items

pub loop-i-preserved : goal.loop-i-preserved
loop-i-preserved c =
    more_told
    (λ finding. FindingOf finding) c.args.findings.now c.loop-i.i _ c.args.lines.now.items c.loop-i.lines.items
    c.add_line.new.lines.items c.loop-i-test.true c.loop-i.invariant c.in_ok-add_line.ensures

pub returns : goal.returns
returns c =
    all_told
    (λ finding. FindingOf finding) c.args.findings.now c.loop-i.i c.args.lines.now.items c.loop-i.lines.items
    c.loop-i-test.false c.loop-i.invariant
