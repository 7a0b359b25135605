use Rattle.std.proofs.Common.{ℕ, ◌≡◌, ◌++◌, length, subst, arith}
use Rattle.image_findings.specs.Findings.{clashes_of}
use Rattle.image_findings.proofs.Steps.{no_clashes, more_clashes}
use Rattle.image_findings.proofs.clashes.add_clashes.Goals as goal

pub loop-i-init : goal.loop-i-init
loop-i-init c = no_clashes c.args.claims.now c.args.found.now.items

pub loop-i-preserved : goal.loop-i-preserved
loop-i-preserved c =
    more_clashes c.args.claims.now c.loop-i.i _ c.args.found.now.items c.loop-i.found.items c.add_with.new.found.items
    c.loop-i-test.true c.loop-i.invariant c.in_ok-add_with.ensures

pub returns : goal.returns
returns c =
    let end : c.loop-i.i ≡ length c.args.claims.now = omega (arith, c.loop-i.auto.i-end, c.loop-i-test.false) in
    subst
    (λ (k : ℕ). c.loop-i.found.items ≡ c.args.found.now.items ++ clashes_of c.args.claims.now k) end
    c.loop-i.invariant
