use Rattle.std.proofs.Common.{rules}
use Rattle.guest_component.proofs.hand.split_hand.Goals as goal

pub returns-clause-frames : goal.returns-clause-frames
returns-clause-frames c = search rules
