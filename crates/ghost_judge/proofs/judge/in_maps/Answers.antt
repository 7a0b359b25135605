use Rattle.std.proofs.Common.{rules}
use Rattle.ghost_judge.proofs.judge.in_maps.Goals as goal

pub returns-then-is_some-2 : goal.returns-then-is_some-2
returns-then-is_some-2 c = search rules

pub returns : goal.returns
returns c = search rules
