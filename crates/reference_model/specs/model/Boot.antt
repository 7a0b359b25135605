-- The boot state (profile).
use Rattle.std.specs.Prelude.{ℕ, true, false, ◌+◌, ◌≤◌, drop, None}
use Rattle.descriptor.specs.declared.Prot.TheVariants.{RW}
use Rattle.descriptor.specs.declared.State.TheVariants.{Owned}
use Rattle.page_state.specs.Accepted.{IsAcceptedLayout}
use Rattle.page_state.specs.declared.row.Row.{Row}
use Rattle.page_state.specs.declared.row.Usage.TheVariants.{SharedPool}
use Rattle.page_state.specs.EntryTests.{leaf, annotation}
use Rattle.page_state.specs.Trees.{Tree, Pool, root_tree, frames_from}
use Rattle.reference_model.specs.model.State.{Shared, Contents, Reference, plain_row, blank, all_rooms}
use Rattle.page_state.specs.Layouts.{Layout, is_memory, hyp_page}
use Rattle.reference_model.specs.model.Owner.{row_of}
use Rattle.page_state.specs.Tables.{Edit, put, need, edited}

-- the row of a frame that the Shared part holds: owned by the hypervisor, lent to nobody, in the
-- shared pool
abbrev pub pool_row : Row
pool_row = record { owner = record { 0 = 1 }; lent = None; usage = SharedPool }

module _ (l : Layout) where
  -- the first frame of the carve-out
  abbrev pub carve_first : ℕ
  carve_first = l.memory.carve.first.0

  -- the host's pages of the carve-out become the hypervisor's
  abbrev pub host_edit : Edit
  host_edit = put carve_first l.memory.carve.count (annotation 1)

  -- the hypervisor's pages of the carve-out become RW Normal Owned
  abbrev pub hyp_edit : Edit
  hyp_edit = put (hyp_page carve_first) l.memory.carve.count (leaf RW carve_first Owned)

  -- the host's root takes the lowest frame of the carve-out
  abbrev pub host_root : Tree
  host_root = root_tree l.depth carve_first

  -- and the hypervisor's the next
  abbrev pub hyp_root : Tree
  hyp_root = root_tree l.depth (carve_first + 1)

  -- the frames that are left
  abbrev pub spare : Pool
  spare = drop 2 (frames_from carve_first l.memory.carve.count)

  -- the number of tables that the host's tree needs at boot apart from its root
  abbrev pub host_need : ℕ
  host_need = need l.depth host_root host_edit

  -- and the hypervisor's
  abbrev pub hyp_need : ℕ
  hyp_need = need l.depth hyp_root hyp_edit

  -- the carve-out has a frame for each table
  abbrev pub IsCarveEnough : Type 0
  IsCarveEnough = 2 + host_need + hyp_need ≤ l.memory.carve.count

  -- the Shared part at boot, before its rows are found
  abbrev pub boot_shared : Shared
  boot_shared = record {
    host = edited l.depth host_root host_edit spare;
    hyp = edited l.depth hyp_root hyp_edit (drop host_need spare);
    free = drop (host_need + hyp_need) spare;
    row = λ f. plain_row;
  }

  -- the contents at boot, before its rows are found
  abbrev pub boot_without_rows : Contents
  boot_without_rows = record blank { shared = boot_shared }

  -- the contents at boot, with the row from scratch of each memory frame
  unfoldable pub booted : Contents
  booted =
      record boot_without_rows {
        shared = record boot_shared {
          row = λ f. elim (is_memory l f)
              [ true ↦ row_of l boot_without_rows f | false ↦ plain_row ];
        };
      }

  -- the state at boot: each log is empty
  abbrev pub boot : Reference
  boot = record { contents = booted; rooms = all_rooms l.config.log }

-- a layout can boot: it is accepted, and the carve-out has a frame for each table
pub record CanBoot (l : Layout) : Type 0 where
  pub accepted : IsAcceptedLayout l
  pub enough : IsCarveEnough l
