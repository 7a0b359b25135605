use Rattle.image_dump.proofs.Pictured.{lines_shown, runs_blocks}
use Rattle.image_dump.proofs.laws.lines_once.Goals as goal

pub returns-clause-lines : goal.returns-clause-lines
returns-clause-lines c = lines_shown

pub returns-clause-blocks : goal.returns-clause-blocks
returns-clause-blocks c = runs_blocks
