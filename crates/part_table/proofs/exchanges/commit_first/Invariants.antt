use Rattle.part_table.proofs.exchanges.commit_first.Given as goal

abbrev pub ghosts-store : goal.ghosts-store
ghosts-store g a = record { call = a.call.now; own = a.own.now }
