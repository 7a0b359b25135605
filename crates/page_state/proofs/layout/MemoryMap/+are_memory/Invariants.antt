use Rattle.page_state.proofs.layout.MemoryMap.+are_memory.Given as goal

abbrev pub decreases-are_memory : goal.decreases-are_memory
decreases-are_memory l = l.count
