use Rattle.std.proofs.lemmas.List.Sorted.{searched}
use Rattle.ghost_coarse.proofs.Listing.{found-or-not}
use Rattle.ghost_coarse.proofs.lacking.has.Goals as goal

pub returns : goal.returns
returns c =
    rw c.is_ok.ensures.value
    (found-or-not c.args.indexes.now c.args.index c.binary_search.result
    (searched c.args.indexes.now c.args.index c.binary_search.result c.binary_search.ensures.position
    (λ i j h k. c.requires i j 0 h k)))
