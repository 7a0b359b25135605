use Rattle.std.proofs.Common.{refl}
use Rattle.ghost_spec.specs.States.{contents_in}
use Rattle.ghost_slots.proofs.Past.{one-ticket, two-tickets}
use Rattle.ghost_slots.proofs.slots.is_only_ticket.Goals as goal

pub returns-in-Some : goal.returns-in-Some
returns-in-Some c = (
  λ t. absurd (cc),
  λ o. absurd
      (two-tickets
      (contents_in c.args.state.now) _ _ c.args.slot c.args.cpu _ c.requires.first c.in-Some.ensures o),
)

pub returns-in-None : goal.returns-in-None
returns-in-None c = (
  λ t. one-ticket (contents_in c.args.state.now) _ c.args.slot c.args.cpu c.requires.first c.in-None.ensures,
  λ o. refl,
)
