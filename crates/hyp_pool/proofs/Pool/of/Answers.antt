use Rattle.std.proofs.Common.{◌≡◌, ◌∙◌, vec_len, arith}
use Rattle.std.proofs.lemmas.Grind.{common_steps}
use Rattle.page_state.specs.Trees.{frames_from}
use Rattle.hyp_pool.specs.Pools.{lowest_first}
use Rattle.hyp_pool.proofs.Pools.{pool_of, all_made}
use Rattle.hyp_pool.proofs.Pool.of.Goals as goal

pub invariant_of-result : goal.invariant_of-result
invariant_of-result c =
    let made : lowest_first c.loop-i.frames.items ≡ frames_from c.args.first.0 c.args.n =
    c.loop-i.invariant.made
    ∙ all_made c.args.first.0 c.loop-i.i
    (vec_len c.loop-i.frames) c.args.n c.loop-i-test.false c.loop-i.invariant.count in
    rw made (pool_of c.args.first.0 c.args.n, c.loop-i.invariant.reserved)

pub returns-clause-pool : goal.returns-clause-pool
returns-clause-pool c = (invariant_of-result c).0

pub loop-i-preserved : goal.loop-i-preserved
loop-i-preserved c = grind (arith, common_steps)
