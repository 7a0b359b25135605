use Rattle.part_table.proofs.exchanges.enter.Given as goal

abbrev pub ghosts-load_entry : goal.ghosts-load_entry
ghosts-load_entry g a = record { call = a.call.now; own = a.own.now }
