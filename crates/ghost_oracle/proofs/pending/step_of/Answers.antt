use Rattle.std.proofs.Common.{◌*◌, ◌^◌, ◌≤◌, sym, subst, arith}
use Rattle.table_tree.specs.Ahead.{GoesAhead}
use Rattle.table_tree.proofs.Ahead.{leaf_goes}
use Rattle.ghost_oracle.proofs.Places.{pages_few}
use Rattle.ghost_oracle.proofs.pending.step_of.Goals as goal

pub overflow_sub-pages : goal.overflow_sub-pages
overflow_sub-pages c = let few = pages_few c.args.depth c.requires.depth_in in omega (arith, c.requires.pages, few)

pub returns-then-frame-pages : goal.returns-then-frame-pages
returns-then-frame-pages c =
    subst (λ e. GoesAhead c.args.depth e (4096 * c.args.pages)) (sym c.in-Leaf.is)
    (leaf_goes c.args.depth c.args.pages c.in-Leaf.frame c.in-Leaf.prot c.in-Leaf.kind c.in-Leaf.state
    c.requires.depth_in c.requires.pages c.if-frame-pages.true)
