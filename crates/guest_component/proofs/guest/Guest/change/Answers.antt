use Rattle.std.proofs.Common.{rules}
use Rattle.guest_component.proofs.guest.Guest.change.Goals as goal

pub returns-clause-made : goal.returns-clause-made
returns-clause-made g c = search rules
