use Rattle.std.proofs.Common.{◌+◌, ◌*◌, sym, subst, ◌∙◌, arith}
use Rattle.descriptor.specs.Word.{IsEncodable}
use Rattle.page_state.specs.Entries.{word_of_entry}
use Rattle.table_tree.specs.Ahead.{GoesAhead}
use Rattle.table_tree.specs.Meaning.{level_at}
use Rattle.table_tree.proofs.Ahead.{said_leaf_goes}
use Rattle.walker.proofs.open.step_of.Goals as goal

pub returns-in-Leaf : goal.returns-in-Leaf
returns-in-Leaf c = subst (λ e. GoesAhead c.args.depth e (4096 * c.pages_before.result)) (sym c.in-Leaf.is)
    (said_leaf_goes c.args.depth c.pages_before.result c.in-Leaf.frame c.in-Leaf.prot c.in-Leaf.kind c.in-Leaf.state
    c.requires.depth_in
    (c.pages_before.ensures.value ∙ omega arith)
    (subst (λ e. IsEncodable (level_at (c.args.depth + 1)) (word_of_entry e)) c.in-Leaf.is c.requires.entry_in))
