use Rattle.std.proofs.Common.{◌∙◌}
use Rattle.table_tree.proofs.RawTables.{shaped_raw}
use Rattle.table_tree.proofs.Views.{meaning_in, meaning_over}
use Rattle.table_tree.proofs.tree.Tree.look.Goals as goal

pub look_in-requires-clause-raw : goal.look_in-requires-clause-raw
look_in-requires-clause-raw g c =
    shaped_raw c.depth-depth.result c.args.self.now.table (rw c.depth-depth.ensures.value c.args.self.now.shaped)

pub returns-then-page-depth-ne0 : goal.returns-then-page-depth-ne0
returns-then-page-depth-ne0 g c =
    meaning_over c.args.self.now c.depth-depth.result c.args.page.0 c.depth-depth.ensures.value c.if-page-depth-ne0.true

pub returns : goal.returns
returns g c =
    c.look_in.ensures
    ∙ meaning_in c.args.self.now c.depth-depth.result c.args.page.0 c.depth-depth.ensures.value
    c.if-page-depth-ne0.false
