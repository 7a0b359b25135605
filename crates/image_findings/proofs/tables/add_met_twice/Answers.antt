use Rattle.std.proofs.Common.{ℕ, ◌≡◌, ◌++◌, length, subst, arith}
use Rattle.image_findings.specs.Findings.{met_in}
use Rattle.image_findings.proofs.Steps.{no_met, more_met}
use Rattle.image_findings.proofs.tables.add_met_twice.Goals as goal

pub loop-i-init : goal.loop-i-init
loop-i-init c = no_met c.args.tables.now c.args.found.now.items

pub loop-i-preserved : goal.loop-i-preserved
loop-i-preserved c =
    more_met c.args.tables.now c.loop-i.i _ c.args.found.now.items c.loop-i.found.items c.add_met_with.new.found.items
    c.loop-i-test.true c.loop-i.invariant c.in_ok-add_met_with.ensures

pub returns : goal.returns
returns c =
    let end : c.loop-i.i ≡ length c.args.tables.now = omega (arith, c.loop-i.auto.i-end, c.loop-i-test.false) in
    subst
    (λ (k : ℕ). c.loop-i.found.items ≡ c.args.found.now.items ++ met_in c.args.tables.now k) end c.loop-i.invariant
