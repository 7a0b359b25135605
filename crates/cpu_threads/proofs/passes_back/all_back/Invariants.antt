use Rattle.std.proofs.Common.{◌≡◌, length}
use Rattle.std.specs.Vec.{vec_len}
use Rattle.cpu_threads.specs.Ends.{AreOf, HasAll}
use Rattle.cpu_threads.specs.Machines.{AreTheirs}
use Rattle.cpu_threads.proofs.Ends.{Backs}
use Rattle.cpu_threads.proofs.passes_back.all_back.Given as goal

-- what is given, and what is at its place, are all passes
abbrev pub invariant-loop-pass : goal.invariant-loop-pass
invariant-loop-pass g l =
    (vec_len l.passes ≡ vec_len l.initial.passes)
    × (length l.passes.items ≡ length l.initial.passes.items)
    × AreTheirs l.table l.passes.items
    × AreOf l.table l.given.items
    × HasAll l.passes.items l.given.items
    × Backs l.initial.passes.items l.initial.given.items l.passes.items l.given.items

abbrev pub decreases-loop-pass : goal.decreases-loop-pass
decreases-loop-pass g l = vec_len l.given
