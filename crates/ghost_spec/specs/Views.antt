-- The parts of the reference state that parts on lists represent.
use Rattle.std.specs.Prelude.{ℕ, List, unwrap_or}
use Rattle.page_state.specs.declared.layout.Config.{Config}
use Rattle.page_state.specs.declared.row.Row.{Row}
use Rattle.page_state.specs.Layouts.{Layout}
use Rattle.page_state.specs.Regions.{Memory}
use Rattle.page_state.specs.Rows.{advance_row}
use Rattle.reference_model.specs.model.State.{Shared, Cpu, plain_row}
use Rattle.run_list.specs.declared.run.Run.{Run}
use Rattle.run_list.specs.Runs.{run_map}
use Rattle.ghost_spec.specs.declared.cpu.GhostCpu.{GhostCpu}
use Rattle.ghost_spec.specs.declared.shared.Shared.{Shared as SharedOfLists}
use Rattle.ghost_trees.specs.Trees.{tree_in_lists}

-- the row of each frame; a frame that no run has is no memory frame, and has the plain one
abbrev pub row_in : List (Run Row) → ℕ → Row
row_in runs f = unwrap_or (run_map advance_row runs f) plain_row

-- the Shared part
abbrev pub shared_in_lists : SharedOfLists → Shared
shared_in_lists s =
    record {
      host = tree_in_lists s.host;
      hyp = tree_in_lists s.hyp;
      free = s.free.items;
      row = row_in s.rows.runs;
    }

-- the layout of a memory, a configuration and a depth
abbrev pub layout_with : Memory → Config → ℕ → Layout
layout_with m config depth = record { memory = m; config = config; depth = depth }

-- a CPU's own state
abbrev pub cpu_in : GhostCpu → Cpu
cpu_in k = record { loaded = k.loaded; hand = k.hand; ticket = k.ticket }
