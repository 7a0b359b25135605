-- Worked rows of calls whose pages have their tables in each run: written without tables and free
-- frames, they are refused as the others are.
use Rattle.std.specs.Prelude.{[], ◌∷◌}
use Rattle.descriptor.specs.declared.Prot.TheVariants.{RW, RX}
use Rattle.descriptor.specs.declared.State.TheVariants.{SharedBorrowed}
use Rattle.call_table.specs.declared.reply.Refusal.TheVariants.{NoPool}
use Rattle.call_table.specs.declared.step.Step.TheVariants.{UnshareHyp, UnshareGuest, GuestShareHost, GuestUnshareHost, ReclaimPage, GuestRelax}
use Rattle.page_state.specs.EntryTests.{leaf}
use Rattle.reference_model.specs.model.State.{Reference}
use Rattle.reference_model.specs.rows.Scene.{small, vm, pages, tables, Refuses}
use Rattle.reference_model.specs.rows.SceneState.{host_map, hyp_map, scene_shared, plain_guest, scene, with_guest_part}

-- the scene with the roots as the only tables of the host and the hypervisor, and no free frame
abbrev pub bare : Reference
bare = record scene {
  contents = record scene.contents {
    shared = record scene_shared {
      host = record { map = host_map; table = tables (((2, 0), 0x1600) ∷ []) };
      hyp = record { map = hyp_map; table = tables (((2, 0), 0x1601) ∷ []) };
      free = [];
    };
  };
}

-- the scene with the root as the only table of the plain guest, which has no free frame
abbrev pub bare_plain : Reference
bare_plain =
    with_guest_part 4
    (record plain_guest {
      free = [];
      tree =
          record {
            map = pages ((16, leaf RX 0x1006 SharedBorrowed) ∷ []);
            table = tables (((2, 0), 0x1711) ∷ []);
          };
    }) scene

-- a change of one page needs a table there, and none is free
abbrev pub TablesShort : Type 0
TablesShort =
    Refuses (small 1) bare 2 (UnshareHyp 0x1001) NoPool
    × Refuses (small 1) bare 2 (UnshareGuest (vm 4 2) 16) NoPool
    × Refuses (small 1) bare 0 (GuestShareHost 7) NoPool
    × Refuses (small 1) bare 0 (GuestUnshareHost 8) NoPool
    × Refuses (small 1) bare 2 (ReclaimPage (vm 5 3) 2) NoPool
    × Refuses (small 1) bare_plain 1 (GuestRelax 16 RW) NoPool
