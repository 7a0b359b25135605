use Rattle.std.proofs.Common.{◌≡◌, ◌∙◌, ◌-◌, ◌≤◌, IfSome, subst, arith}
use Rattle.page_state.specs.Blocks.{block_at}
use Rattle.table_tree.specs.View.{tree_of}
use Rattle.table_tree.specs.Said.{block_of, IsWordOf, IsRunOrTable}
use Rattle.table_tree.proofs.OnPage.{page_block}
use Rattle.table_tree.proofs.tree.Tree.word_on.Goals as goal

block : (g : _) (c : goal.After-word_at g)
    → block_of c.args.self.now.geometry c.as_slice.result.now ≡ block_at (3 - c.args.level) c.args.page.0
block g c =
    page_block c.args.self.now.geometry c.as_slice.result.now c.args.page.0 (3 - c.depth-top.result) c.args.level
    (omega (arith, c.depth-top.ensures.value, c.depth-top.ensures.small))
    (omega (arith, c.if-level-from.false, c.from.ensures)) (omega (arith, c.if-level-gt3.false))
    (omega (arith, c.if-page-pages.false, c.pages.ensures)) (c.as_slice.ensures.value ∙ c.path_to-path.ensures)

pub returns-clause-said : goal.returns-clause-said
returns-clause-said g c =
    subst (λ b. IfSome c.word_at.result (λ w. IsWordOf (tree_of c.args.self.now) b w))
    (block g c) c.word_at.ensures.said

pub returns-clause-run : goal.returns-clause-run
returns-clause-run g c =
    subst (λ b. IfSome c.word_at.result (λ _. IsRunOrTable (tree_of c.args.self.now) b))
    (block g c) c.word_at.ensures.run
