use Rattle.part_table.proofs.Taken.{made_as_taken}
use Rattle.part_table.proofs.laws.made_as_taken.Goals as goal

pub returns : goal.returns
returns g c = made_as_taken g.M.Maker.tells
