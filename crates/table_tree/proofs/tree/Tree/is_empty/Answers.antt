use Rattle.std.proofs.Common.{arith}
use Rattle.table_tree.proofs.Bare.{bare_inside, bare_outside}
use Rattle.table_tree.proofs.tree.Tree.is_empty.Goals as goal

pub is_empty_in-requires-clause-shape : goal.is_empty_in-requires-clause-shape
is_empty_in-requires-clause-shape g c = rw c.depth-top.ensures.value c.args.self.now.shaped

pub is_empty_in-requires-clause-tight : goal.is_empty_in-requires-clause-tight
is_empty_in-requires-clause-tight g c = rw c.depth-top.ensures.value c.args.self.now.tight

pub returns-then-page-top-ne0 : goal.returns-then-page-top-ne0
returns-then-page-top-ne0 g c =
    bare_outside c.args.self.now c.depth-top.result c.args.depth c.args.page.0 c.depth-top.ensures.value
    (omega (arith, c.requires, c.depth-top.ensures.value)) c.if-page-top-ne0.true

pub returns : goal.returns
returns g c =
    bare_inside c.args.self.now c.depth-top.result c.args.depth c.args.page.0 c.is_empty_in.result
    c.depth-top.ensures.value
    (omega (arith, c.requires, c.depth-top.ensures.value)) c.if-page-top-ne0.false c.is_empty_in.ensures
