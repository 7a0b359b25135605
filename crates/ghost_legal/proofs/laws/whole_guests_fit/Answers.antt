use Rattle.ghost_legal.proofs.WholeGuests.{guests-fit}
use Rattle.ghost_legal.proofs.laws.whole_guests_fit.Goals as goal

pub returns : goal.returns
returns c = guests-fit
