use Rattle.std.proofs.Common.{arith}
use Rattle.ghost_slots.proofs.slots.has_one_ticket.Goals as goal

pub returns-in-None : goal.returns-in-None
returns-in-None c = (λ t. absurd (cc), λ o. absurd (c.in-None.ensures o.0 (omega arith) o.1))
