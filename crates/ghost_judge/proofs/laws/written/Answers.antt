use Rattle.std.proofs.Common.{refl}
use Rattle.std.specs.Fmt.{digits}
use Rattle.ghost_judge.specs.Texts.{text_of_told_row}
use Rattle.ghost_judge.proofs.laws.written.Goals as goal

pub returns : goal.returns
unfolding digits text_of_told_row
returns c = record { map = refl; owner = refl; reply = refl; free = refl; table = refl; state = refl; judgement = refl }
