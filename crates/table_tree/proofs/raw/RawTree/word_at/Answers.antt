use Rattle.table_tree.specs.RawView.{raw_word_of}
use Rattle.table_tree.proofs.raw.RawTree.word_at.Goals as goal

pub returns : goal.returns
unfolding raw_word_of
returns g c = c.word_in.ensures
