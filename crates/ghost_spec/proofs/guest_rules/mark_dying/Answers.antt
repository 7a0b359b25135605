use Rattle.std.proofs.Common.{not, ap, ◌∙◌}
use Rattle.ghost_spec.specs.Used.{used_in}
use Rattle.ghost_spec.proofs.Tickets.{dies, dies-nowhere}
use Rattle.ghost_spec.proofs.guest_rules.mark_dying.Goals as goal

pub returns-then-is_none-clause-decided : goal.returns-then-is_none-clause-decided
returns-then-is_none-clause-decided c =
    λ l cpu. dies-nowhere l cpu c.args.slot (used_in c.args.used.now)
    (ap not (c.is_none.ensures ∙ ap not c.if-is_none.true))

pub returns-clause-decided : goal.returns-clause-decided
returns-clause-decided c =
    λ l cpu. dies l cpu c.args.slot (used_in c.args.used.now) c.moved_on.result c.moved_on.ensures
    (ap not (c.is_none.ensures ∙ ap not c.if-is_none.false))
