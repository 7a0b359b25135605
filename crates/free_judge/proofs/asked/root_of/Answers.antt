use Rattle.std.proofs.Common.{◌∙◌}
use Rattle.page_state.proofs.Common.{same2}
use Rattle.free_judge.specs.PoolByRows.{frame_or}
use Rattle.free_judge.proofs.asked.root_of.Goals as goal

pub returns : goal.returns
returns c = c.either.ensures ∙ same2 frame_or c.first_of.ensures c.other.ensures
