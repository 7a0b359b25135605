use Rattle.std.proofs.Common.{rules}
use Rattle.world_tests.proofs.sample.config.Goals as goal

pub returns : goal.returns
returns c = search rules
