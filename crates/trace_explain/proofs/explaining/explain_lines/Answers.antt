use Rattle.std.proofs.Common.{◌+◌, Option, subst, arith}
use Rattle.std.proofs.lemmas.List.{length-map}
use Rattle.trace_explain.specs.Explained.{is_shown}
use Rattle.trace_explain.specs.View.{IsCarriedAt}
use Rattle.trace_text.specs.ByPlace.{lines_in}
use Rattle.trace_explain.proofs.Leading.{ends_at_fault, ends_clean}
use Rattle.trace_explain.proofs.explaining.explain_lines.Goals as goal
use Rattle.trace_text.specs.declared.fault.Fault.{Fault}
use Rattle.trace_text.specs.View.{standing_of}

pub returns : goal.returns
returns g c =
    ends_clean c.args.only c.args.name.now (lines_in c.args.lines.now) c.loop-place.place
    (standing_of c.loop-place.session) c.loop-place.text.items
    (omega
    (arith, length-map c.args.lines.now (λ line. line.now), c.loop-place-test.false)) c.loop-place.invariant.ahead

pub returns-in-Some : goal.returns-in-Some
returns-in-Some g c =
    let carried =
    subst
    (λ (f : Option Fault). IsCarriedAt
    (is_shown c.args.only (c.loop-place.place + 1)) c.args.lines.now c.loop-place.place c.loop-place.session
    c.loop-place.text.items c.carry_line.new.session c.carry_line.new.text.items f)
    c.in-Some.is c.in_ok-stopped.ensures.done in
    ends_at_fault c.args.only c.args.name.now (lines_in c.args.lines.now) c.loop-place.place
    (standing_of c.loop-place.session) (standing_of c.carry_line.new.session) c.loop-place.text.items
    (omega
    (arith, length-map c.args.lines.now (λ line. line.now), c.loop-place-test.true)) c.loop-place.invariant.ahead
    c.carry_line.new.text.items c.add_fault.new.text.items c.in-Some.fault carried c.in_ok-add_fault.ensures
