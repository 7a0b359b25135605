-- The parts of a Shared part that stay: `s` is the part before, `t` afterwards.
use Rattle.std.specs.Prelude.{◌≡◌, ◌≤◌}
use Rattle.table_tree.specs.View.{spares_of}
use Rattle.part_types.specs.declared.parts.SharedPart.{SharedPart}
use Rattle.part_types.specs.View.{shared_of, depth_of}

module _ {A : Type 0} where
  -- all but the maps and the pool stays
  pub record KeepsRest (s t : SharedPart A) : Type 0 where
    pub rows : t.owners ≡ s.owners
    pub log : t.log ≡ s.log
    pub depth : depth_of t ≡ depth_of s

  -- the maplets stay, apart from their room
  pub record KeepsRuns (s t : SharedPart A) : Type 0 where
    pub host : t.host.maplets.runs ≡ s.host.maplets.runs
    pub hyp : t.hyp.maplets.runs ≡ s.hyp.maplets.runs

  -- no spare is lost
  pub record KeepsSpares (s t : SharedPart A) : Type 0 where
    pub host : spares_of s.host.tree ≤ spares_of t.host.tree
    pub hyp : spares_of s.hyp.tree ≤ spares_of t.hyp.tree

  -- a refusal leaves all as it was, though the trees may have more spares
  pub record IsUnchanged (s t : SharedPart A) : Type 0 where
    pub same : shared_of t ≡ shared_of s
    pub spares : KeepsSpares s t
