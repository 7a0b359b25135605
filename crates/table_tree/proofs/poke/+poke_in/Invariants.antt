use Rattle.table_tree.proofs.poke.+poke_in.Given as goal

abbrev pub decreases-poke_in : goal.decreases-poke_in
decreases-poke_in g l = l.depth
