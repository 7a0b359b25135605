use Rattle.ghost_legal.proofs.Pointwise.{frames-legal}
use Rattle.ghost_legal.proofs.laws.frames_are_legal.Goals as goal

pub returns : goal.returns
returns c = frames-legal
