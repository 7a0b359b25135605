use Rattle.table_tree.proofs.look.+word_in.Given as goal

abbrev pub decreases-word_in : goal.decreases-word_in
decreases-word_in g l = l.depth
