use Rattle.walker.proofs.open.put_back.Goals as goal

pub wipe-requires-clause-words : goal.wipe-requires-clause-words
wipe-requires-clause-words g c k p = let x = c.in-Some.ensures.found.parts k p in
    rw c.deref_mut.ensures.value (x.0, rw c.deref.ensures at x.1)
