use Rattle.std.proofs.Common.{◌≡◌, map, drop, sym, subst, ◌∙◌, arith}
use Rattle.ghost_judge.proofs.Apart.{IsLeft, left_all, left_step, left_found, left_only_one, left_only_two, left_no_one}
use Rattle.ghost_judge.proofs.difference.first_apart.Goals as goal

pub returns-then-is_some : goal.returns-then-is_some
returns-then-is_some g c =
    left_found g.V.Advance.advance g.V.Advance.CanAdvance g.V.PartialEq.eq g.met.V.Advance.laws g.T.Told.told
    c.args.a.now c.args.b.now c.loop-i.i c.index-a-i.result c.index-b-i.result c.run.result c.run-in-loop-i.result
    c.parted-page.result
    (omega (arith, c.min-both.ensures, c.loop-i-test.true))
    (omega (arith, c.min-both.ensures, c.loop-i-test.true)) c.index-a-i.is c.index-b-i.is c.run.ensures
    c.run-in-loop-i.ensures c.parted-page.ensures
    (sym c.is_some.ensures ∙ c.if-is_some.true) c.loop-i.invariant

pub loop-i-preserved : goal.loop-i-preserved
loop-i-preserved g c =
    left_step g.V.Advance.advance g.V.Advance.CanAdvance g.V.PartialEq.eq g.met.V.Advance.laws g.T.Told.told
    c.args.a.now c.args.b.now c.loop-i.i c.index-a-i.result c.index-b-i.result c.run.result c.run-in-loop-i.result
    c.parted-page.result
    (omega (arith, c.min-both.ensures, c.loop-i-test.true))
    (omega (arith, c.min-both.ensures, c.loop-i-test.true)) c.index-a-i.is c.index-b-i.is c.run.ensures
    c.run-in-loop-i.ensures c.parted-page.ensures
    (sym c.is_some.ensures ∙ c.if-is_some.false) c.loop-i.invariant

pub returns-then-both-a : goal.returns-then-both-a
returns-then-both-a g c =
    let end : c.loop-i.i ≡ c.min-both.result = omega (arith, c.loop-i.auto.i-end, c.loop-i-test.false) in
    left_only_one g.V.Advance.advance g.V.Advance.CanAdvance g.V.PartialEq.eq g.met.V.Advance.laws g.T.Told.told
    c.args.a.now c.args.b.now c.min-both.result c.index-a-both.result c.run-then-both-a.result c.if-both-a.true
    (omega (arith, c.min-both.ensures, c.if-both-a.true)) c.index-a-both.is c.run-then-both-a.ensures
    (subst
    (λ i. IsLeft g.V.Advance.advance g.V.Advance.CanAdvance (map g.T.Told.told c.args.a.now)
    (map g.T.Told.told c.args.b.now) (map g.T.Told.told (drop i c.args.a.now))
    (map g.T.Told.told (drop i c.args.b.now))) end c.loop-i.invariant)

pub returns-then-both-b : goal.returns-then-both-b
returns-then-both-b g c =
    let end : c.loop-i.i ≡ c.min-both.result = omega (arith, c.loop-i.auto.i-end, c.loop-i-test.false) in
    left_only_two g.V.Advance.advance g.V.Advance.CanAdvance g.V.PartialEq.eq g.met.V.Advance.laws g.T.Told.told
    c.args.a.now c.args.b.now c.min-both.result c.index-b-both.result c.run-then-both-b.result c.if-both-a.false
    c.if-both-b.true c.index-b-both.is c.run-then-both-b.ensures
    (subst
    (λ i. IsLeft g.V.Advance.advance g.V.Advance.CanAdvance (map g.T.Told.told c.args.a.now)
    (map g.T.Told.told c.args.b.now) (map g.T.Told.told (drop i c.args.a.now))
    (map g.T.Told.told (drop i c.args.b.now))) end c.loop-i.invariant)

pub loop-i-init : goal.loop-i-init
loop-i-init g c =
    left_all g.V.Advance.advance g.V.Advance.CanAdvance g.V.PartialEq.eq g.met.V.Advance.laws
    (map g.T.Told.told c.args.a.now) (map g.T.Told.told c.args.b.now) c.requires.a c.requires.b

pub returns : goal.returns
returns g c =
    let end : c.loop-i.i ≡ c.min-both.result = omega (arith, c.loop-i.auto.i-end, c.loop-i-test.false) in
    left_no_one g.V.Advance.advance g.V.Advance.CanAdvance g.V.PartialEq.eq g.met.V.Advance.laws g.T.Told.told
    c.args.a.now c.args.b.now c.min-both.result c.if-both-a.false c.if-both-b.false
    (subst
    (λ i. IsLeft g.V.Advance.advance g.V.Advance.CanAdvance (map g.T.Told.told c.args.a.now)
    (map g.T.Told.told c.args.b.now) (map g.T.Told.told (drop i c.args.a.now))
    (map g.T.Told.told (drop i c.args.b.now))) end c.loop-i.invariant)
