use Rattle.ghost_legal.proofs.Whole.{all-guests}
use Rattle.ghost_legal.proofs.laws.guests_are_held.Goals as goal

pub returns : goal.returns
returns c = all-guests
