use Rattle.std.proofs.Common.{[], ◌++◌, ◌∙◌, ap}
use Rattle.std.specs.Prelude.{option_to_list}
use Rattle.image_dump.specs.Pictures.{finding_in}
use Rattle.image_findings.proofs.Steps.{all_given, more_given}
use Rattle.image_dump.proofs.picture.findings_in.Goals as goal

pub loop-i-preserved : goal.loop-i-preserved
loop-i-preserved c = record {
  found =
      more_given finding_in c.args.lines.now c.loop-i.i _ [] c.loop-i.found.items c.add.new.found.items
      c.loop-i-test.true c.loop-i.invariant.found
      (c.in_ok-add.ensures ∙ ap (λ o. c.loop-i.found.items ++ option_to_list o) c.finding_in.ensures);
}

pub returns : goal.returns
returns c =
    all_given finding_in c.args.lines.now c.loop-i.i
    [] c.loop-i.found.items c.loop-i-test.false c.loop-i.invariant.found
