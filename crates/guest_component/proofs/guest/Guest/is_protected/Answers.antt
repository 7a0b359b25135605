use Rattle.std.proofs.Common.{rules}
use Rattle.guest_component.proofs.guest.Guest.is_protected.Goals as goal

pub returns-in-Some : goal.returns-in-Some
returns-in-Some g c = search rules
