use Rattle.std.proofs.Common.{arith}
use Rattle.table_tree.proofs.OnPage.{path_of-further}
use Rattle.trace_audit.proofs.path.path_to.Goals as goal

pub loop-upper-preserved : goal.loop-upper-preserved
loop-upper-preserved c =
    let further = path_of-further c.args.page c.args.top c.loop-upper.upper (omega arith) (omega arith) in
    record { fits = omega arith; path = cc }
