use Rattle.std.proofs.Common.{refl}
use Rattle.cpu_threads.proofs.Tallies.{is_zero}
use Rattle.cpu_threads.proofs.rooms.Tally.new.Goals as goal

pub returns : goal.returns
returns c =
    is_zero c.args.cpus _ refl refl (c.in_ok-vec.ensures.items_if_clones_equal (λ y e. e))
    (c.in_ok-vec-2.ensures.items_if_clones_equal (λ y e. e))
