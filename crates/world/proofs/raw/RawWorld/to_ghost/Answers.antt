use Rattle.std.proofs.Common.{rules}
use Rattle.world.proofs.raw.RawWorld.to_ghost.Goals as goal

pub returns-clause-found : goal.returns-clause-found
returns-clause-found g c = search rules

pub returns-clause-rows : goal.returns-clause-rows
returns-clause-rows g c = c.kept_raw.ensures.rows

pub returns-clause-frames : goal.returns-clause-frames
returns-clause-frames g c = c.kept_raw.ensures.frames

pub returns-clause-ready : goal.returns-clause-ready
returns-clause-ready g c = c.kept_raw.ensures.ready
