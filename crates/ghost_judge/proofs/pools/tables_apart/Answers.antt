use Rattle.ghost_judge.proofs.PoolLists.{tables_apart}
use Rattle.ghost_judge.proofs.pools.tables_apart.Goals as goal

pub returns : goal.returns
returns c =
    tables_apart c.args.a.now c.args.b.now c.least-found.result c.least.result c.least-found.ensures.covered
    c.least.ensures.more c.least.ensures.unlike c.least.ensures.covered
