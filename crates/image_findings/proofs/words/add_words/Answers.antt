use Rattle.std.proofs.Common.{◌∙◌, ◌++◌, ap}
use Rattle.std.specs.Prelude.{option_to_list}
use Rattle.image_findings.specs.Findings.{bad_word}
use Rattle.image_findings.proofs.Steps.{all_given, more_given, none_given}
use Rattle.image_findings.proofs.words.add_words.Goals as goal

pub loop-i-init : goal.loop-i-init
loop-i-init c = none_given (bad_word c.args.tree) c.args.runs.now c.args.found.now.items

pub loop-i-preserved : goal.loop-i-preserved
loop-i-preserved c =
    more_given
    (bad_word c.args.tree) c.args.runs.now c.loop-i.i _ c.args.found.now.items c.loop-i.found.items
    c.add.new.found.items c.loop-i-test.true c.loop-i.invariant
    (c.in_ok-add.ensures ∙ ap (λ o. c.loop-i.found.items ++ option_to_list o) c.found_in.ensures)

pub returns : goal.returns
returns c =
    all_given
    (bad_word c.args.tree) c.args.runs.now c.loop-i.i c.args.found.now.items c.loop-i.found.items
    c.loop-i-test.false c.loop-i.invariant
