use Rattle.part_types.proofs.Shares.{given}
use Rattle.part_types.proofs.parts.SharedPart.give_rows.Goals as goal

pub returns-clause-made : goal.returns-clause-made
returns-clause-made g c = given c.args.self.now c.args.frames c.args.row c.set.new.self c.set.ensures.map
