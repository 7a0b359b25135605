use Rattle.std.proofs.Common.{◌∙◌, ◌++◌, ap}
use Rattle.std.specs.Prelude.{option_to_list}
use Rattle.image_findings.specs.Claims.{claim_of}
use Rattle.image_findings.proofs.Steps.{all_given, more_given, none_given}
use Rattle.image_findings.proofs.claim.add_claims.Goals as goal

pub loop-i-init : goal.loop-i-init
loop-i-init c = none_given (claim_of c.args.tree) c.args.runs.now c.args.claims.now.items

pub loop-i-preserved : goal.loop-i-preserved
loop-i-preserved c =
    more_given
    (claim_of c.args.tree) c.args.runs.now c.loop-i.i _ c.args.claims.now.items c.loop-i.claims.items
    c.add.new.claims.items c.loop-i-test.true c.loop-i.invariant
    (c.in_ok-add.ensures ∙ ap (λ o. c.loop-i.claims.items ++ option_to_list o) c.claimed.ensures)

pub returns : goal.returns
returns c =
    all_given
    (claim_of c.args.tree) c.args.runs.now c.loop-i.i c.args.claims.now.items c.loop-i.claims.items
    c.loop-i-test.false c.loop-i.invariant
