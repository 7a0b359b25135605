use Rattle.std.proofs.Common.{◌-◌, ◌<◌, arith}
use Rattle.std.proofs.lemmas.Bool.Decides.{nat_tests}
use Rattle.ghost_trees.proofs.blocks.meets.Goals as goal

pub returns-clause-some : goal.returns-clause-some
returns-clause-some c t =
    let from = c.max-from.ensures in
    let end = c.min-end.ensures in
    let less : c.max-from.result < c.min-end.result = grind (arith, nat_tests) in
    (c.max-from.result - c.args.first, omega (arith, less, from, end), grind (arith, nat_tests))
