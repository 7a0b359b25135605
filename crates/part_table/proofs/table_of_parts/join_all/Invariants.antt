use Rattle.std.proofs.Common.{◌≡◌, ℕ, ◌≤◌, [], true}
use Rattle.std.specs.Prelude.{slice_get}
use Rattle.std.specs.Vec.{vec_capacity, vec_len}
use Rattle.part_table.specs.Endings.{HaveEnded}
use Rattle.part_table.proofs.table_of_parts.join_all.Given as goal

-- the passes before this one have ended, and the others are at their places
abbrev pub invariant-loop-cpu : goal.invariant-loop-cpu
invariant-loop-cpu g l =
    (l.root.table_id ≡ l.initial.root.table_id)
    × (l.root.id ≡ 0)
    × (l.root.me.0.root ≡ true)
    × (l.root.me.0.made ≡ l.initial.root.me.0.made)
    × (l.root.me.1 ≡ [])
    × HaveEnded l.cpu l.initial.passes.items l.root.me.0.ended l.cpus.items
    × (vec_len l.cpus ≡ l.cpu)
    × (l.count ≤ vec_capacity l.cpus)
    × (vec_len l.passes ≡ l.count)
    × ((j : ℕ) → l.cpu ≤ j → slice_get l.passes.items j ≡ slice_get l.initial.passes.items j)
    × (l.root.me.0.begun ≡ l.initial.root.me.0.begun)
