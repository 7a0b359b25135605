use Rattle.std.proofs.Common.{◌≡◌, List, Option, Some, None}
use Rattle.std.specs.Prelude.{All, MatchOption}
use Rattle.page_state.specs.Trees.{Block}
use Rattle.ghost_trees.specs.declared.tree.Table.{Table}
use Rattle.ghost_trees.specs.Trees.{table_of}
use Rattle.ghost_judge.specs.inner.Same.{HasSameFrame}
use Rattle.ghost_judge.proofs.Judged.{alike}
use Rattle.table_audit.specs.Tables.{IsTableApart}
use Rattle.table_audit.proofs.Firsts.{none_of}
use Rattle.table_audit.proofs.tables.first_block_apart.Goals as goal

both : (a b : List Table) (o : Option Block)
    → All (HasSameFrame a b) a
    → MatchOption o (All (HasSameFrame a b) b) (IsTableApart a b)
    → MatchOption o (table_of a ≡ table_of b) (IsTableApart a b)
both a b None h k = alike a b h k
both a b (Some block) h k = k

pub returns-in-None : goal.returns-in-None
returns-in-None c =
    both c.args.kept.now c.args.walked.now c.apart_among-in-None.result
    (none_of _ _ c.apart_among.result c.in-None.is c.apart_among.ensures) c.apart_among-in-None.ensures
