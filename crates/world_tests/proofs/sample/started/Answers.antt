use Rattle.std.proofs.Common.{rules}
use Rattle.world_tests.proofs.sample.started.Goals as goal

pub returns-clause-enough : goal.returns-clause-enough
returns-clause-enough c = search rules
