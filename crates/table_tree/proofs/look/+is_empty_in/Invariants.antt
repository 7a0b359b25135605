use Rattle.table_tree.proofs.look.+is_empty_in.Given as goal

abbrev pub decreases-is_empty_in : goal.decreases-is_empty_in
decreases-is_empty_in g l = l.top
