-- Conditions under which no growth is needed.
use Rattle.std.specs.Prelude.{◌≤◌}
use Rattle.component.specs.View.{HasRoomFor, need_for}
use Rattle.table_tree.specs.View.{spares_of}
use Rattle.part_types.specs.declared.parts.SharedPart.{SharedPart}
use Rattle.reference_model.specs.declared.changes.Changes.{Changes}

-- no growth can be needed: both maplets have the room that a change asks, and each tree a spare for
-- each table that it needs
pub record IsRoomy {A : Type 0} (h : Changes) (s : SharedPart A) : Type 0 where
  pub host : HasRoomFor h.host s.host.maplets
  pub hyp : HasRoomFor h.hyp s.hyp.maplets
  pub host_spares : need_for s.host.tree h.host ≤ spares_of s.host.tree
  pub hyp_spares : need_for s.hyp.tree h.hyp ≤ spares_of s.hyp.tree
