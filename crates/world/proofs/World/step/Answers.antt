use Rattle.world.proofs.World.step.Goals as goal

pub returns-clause-step : goal.returns-clause-step
returns-clause-step g c = c.step.ensures.step
