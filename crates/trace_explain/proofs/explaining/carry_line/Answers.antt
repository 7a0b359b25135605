use Rattle.std.proofs.Common.{Bool, IfOk, subst}
use Rattle.trace_explain.specs.View.{IsCarriedAt}
use Rattle.trace_explain.proofs.explaining.carry_line.Goals as goal

pub returns-else-is_wanted-clause-done : goal.returns-else-is_wanted-clause-done
returns-else-is_wanted-clause-done g c =
    subst
    (λ (b : Bool). IfOk c.pass_line.result
    (IsCarriedAt b c.args.lines.now c.args.place c.args.session.now c.args.text.now.items
    c.pass_line.new.session c.args.text.now.items))
    c.if-is_wanted.ensures (c.pass_line.ensures.done c.args.text.now.items)
