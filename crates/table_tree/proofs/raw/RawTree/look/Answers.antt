use Rattle.std.proofs.Common.{◌∙◌, ap, sym}
use Rattle.table_tree.proofs.Views.{map_in, map_over}
use Rattle.table_tree.proofs.RawViews.{raw_meaning_is}
use Rattle.table_tree.proofs.raw.RawTree.look.Goals as goal

pub returns-then-page-depth-ne0 : goal.returns-then-page-depth-ne0
returns-then-page-depth-ne0 g c =
    map_over c.args.self.now.geometry c.args.self.now.table c.depth-depth.result c.args.page.0
    c.depth-depth.ensures.value c.if-page-depth-ne0.true
    ∙ sym (ap (λ m. m c.args.page.0) (raw_meaning_is c.args.self.now))

pub returns : goal.returns
returns g c =
    c.look_in.ensures
    ∙ map_in c.args.self.now.geometry c.args.self.now.table c.depth-depth.result c.args.page.0
    c.depth-depth.ensures.value c.if-page-depth-ne0.false
    ∙ sym (ap (λ m. m c.args.page.0) (raw_meaning_is c.args.self.now))
