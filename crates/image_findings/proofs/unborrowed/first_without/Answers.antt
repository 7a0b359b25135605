use Rattle.std.proofs.Common.{◌≡◌, ◌+◌, ◌∙◌, Some, true, false, ap, arith, subst, sym, ◌≤◌, ◌^◌}
use Rattle.std.specs.List.{list_any}
use Rattle.image_findings.specs.Unborrowed.{is_of}
use Rattle.image_findings.proofs.Steps.{first_frame, found_frame, next_frame, no_more_frames, past_frames}
use Rattle.image_findings.proofs.unborrowed.first_without.Goals as goal

pub loop-i-init : goal.loop-i-init
loop-i-init c = first_frame c.args.side c.args.claims.now c.args.frame c.args.count

pub loop-i-preserved : goal.loop-i-preserved
loop-i-preserved c =
    let at = c.in-Some.ensures.1 in
    let some =
    subst (λ f. list_any (is_of c.args.side f) c.args.claims.now ≡ true) at
    (sym c.has_side.ensures ∙ c.if-not-has_side.false) in
    next_frame c.args.side c.args.claims.now c.args.frame c.args.count c.loop-i.i _ c.loop-i-test.true
    c.in-Some.ensures.0 some
    c.loop-i.invariant

pub returns-in-None : goal.returns-in-None
returns-in-None c =
    let past : 2 ^ 64 ≤ c.args.frame + c.loop-i.i = omega (arith, c.in-None.ensures) in
    past_frames c.args.side c.args.claims.now c.args.frame c.args.count c.loop-i.i _ c.loop-i-test.true past
    c.loop-i.invariant

pub returns-then-not-has_side : goal.returns-then-not-has_side
returns-then-not-has_side c =
    let at = c.in-Some.ensures.1 in
    let none =
    subst (λ f. list_any (is_of c.args.side f) c.args.claims.now ≡ false) at
    (sym c.has_side.ensures ∙ c.if-not-has_side.true) in
    ap (λ f. Some f) at
    ∙ found_frame c.args.side c.args.claims.now c.args.frame c.args.count c.loop-i.i _ c.loop-i-test.true
    c.in-Some.ensures.0
    none c.loop-i.invariant

pub returns : goal.returns
returns c =
    no_more_frames c.args.side c.args.claims.now c.args.frame c.args.count c.loop-i.i _ c.loop-i-test.false
    c.loop-i.invariant
