use Rattle.std.proofs.Common.{arith, ◌∙◌}
use Rattle.walker.proofs.open.wipe.Goals as goal

pub put-requires-clause-holds : goal.put-requires-clause-holds
put-requires-clause-holds g c = let x = c.requires.words c.loop-i.i c.loop-i-test.true in
    (x.0, c.loop-i.invariant.rest c.loop-i.i (omega arith) ∙ x.1)
