use Rattle.std.proofs.Common.{rules}
use Rattle.guest_component.proofs.body.Body.die.Goals as goal

pub returns-clause-made : goal.returns-clause-made
returns-clause-made g c = search rules
