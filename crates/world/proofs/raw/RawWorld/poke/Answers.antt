use Rattle.world.proofs.raw.RawWorld.poke.Goals as goal

pub returns-in-Ok-clause-poked : goal.returns-in-Ok-clause-poked
returns-in-Ok-clause-poked g c = c.in-Ok.ensures.poked
