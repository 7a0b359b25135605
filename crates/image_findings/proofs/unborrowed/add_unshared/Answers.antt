use Rattle.std.proofs.Common.{◌∙◌, ◌++◌, ap}
use Rattle.std.specs.Prelude.{option_to_list}
use Rattle.image_findings.specs.Unborrowed.{unshared_of}
use Rattle.image_findings.proofs.Steps.{all_given, more_given, none_given}
use Rattle.image_findings.proofs.unborrowed.add_unshared.Goals as goal

pub loop-i-init : goal.loop-i-init
loop-i-init c = none_given (unshared_of c.args.claims.now) c.args.claims.now c.args.found.now.items

pub loop-i-preserved : goal.loop-i-preserved
loop-i-preserved c =
    more_given
    (unshared_of c.args.claims.now) c.args.claims.now c.loop-i.i _ c.args.found.now.items c.loop-i.found.items
    c.add.new.found.items c.loop-i-test.true c.loop-i.invariant
    (c.in_ok-add.ensures ∙ ap (λ o. c.loop-i.found.items ++ option_to_list o) c.unshared.ensures)

pub returns : goal.returns
returns c =
    all_given
    (unshared_of c.args.claims.now) c.args.claims.now c.loop-i.i c.args.found.now.items c.loop-i.found.items
    c.loop-i-test.false c.loop-i.invariant
