-- A guest with its map changed.
use Rattle.std.specs.Prelude.{ℕ, drop, Option}
use Rattle.page_state.specs.Tables.{need, returned, edited, all_given}
use Rattle.reference_model.specs.declared.changes.MapChange.{MapChange}
use Rattle.reference_model.specs.model.Changes.{edit_of}
use Rattle.reference_model.specs.model.State.{Guest}

-- the guest with its map changed from its own pool
abbrev pub mapped_guest : ℕ → Option MapChange → Guest → Guest
mapped_guest depth c g = record g {
  tree = edited depth g.tree (edit_of c) g.free;
  free =
      all_given (returned depth g.tree (edit_of c)) (drop (need depth g.tree (edit_of c)) g.free);
}
