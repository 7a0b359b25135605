use Rattle.cpu_threads.proofs.shutdown.rooms_for.Goals as goal

pub returns-clause-found : goal.returns-clause-found
returns-clause-found g c = (c.in_ok-found.ensures.items, c.in_ok-found.ensures.capacity)

pub returns-clause-cpus : goal.returns-clause-cpus
returns-clause-cpus g c = (c.in_ok-cpus.ensures.items, c.in_ok-cpus.ensures.capacity)

pub returns-clause-guests : goal.returns-clause-guests
returns-clause-guests g c = (c.in_ok-guests.ensures.items, c.in_ok-guests.ensures.capacity)
