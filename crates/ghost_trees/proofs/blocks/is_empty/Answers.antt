use Rattle.page_state.specs.Blocks.{is_empty}
use Rattle.ghost_trees.proofs.blocks.is_empty.Goals as goal

pub returns : goal.returns
unfolding is_empty
returns c = rw (c.span.ensures.value, c.first_page.ensures) at c.has_no_entry.ensures
