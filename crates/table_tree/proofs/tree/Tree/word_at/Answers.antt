use Rattle.table_tree.specs.View.{word_of}
use Rattle.table_tree.proofs.RawTables.{shaped_raw}
use Rattle.table_tree.proofs.Said.{word_where, word_which, word_run}
use Rattle.table_tree.proofs.tree.Tree.word_at.Goals as goal

pub word_in-requires-clause-raw : goal.word_in-requires-clause-raw
word_in-requires-clause-raw g c =
    shaped_raw c.depth.result c.args.self.now.table (rw c.depth.ensures.value c.args.self.now.shaped)

pub returns-clause-value : goal.returns-clause-value
unfolding word_of
returns-clause-value g c = c.word_in.ensures

pub returns-clause-found : goal.returns-clause-found
returns-clause-found g c = rw (returns-clause-value g c) (word_where c.args.self.now c.args.path.now)

pub returns-clause-said : goal.returns-clause-said
returns-clause-said g c = rw (returns-clause-value g c) (word_which c.args.self.now c.args.path.now)

pub returns-clause-run : goal.returns-clause-run
returns-clause-run g c = rw (returns-clause-value g c) (word_run c.args.self.now c.args.path.now)
