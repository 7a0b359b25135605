-- The view of parts in contracts, as parts of the reference state.
use Rattle.std.specs.Prelude.{ℕ, ◌-◌, unwrap_or, if◌then◌else◌}
use Rattle.owner_table.specs.Rows.{row_at}
use Rattle.page_state.specs.declared.entry.PageRange.{PageRange}
use Rattle.page_state.specs.declared.row.Row.{Row}
use Rattle.page_state.specs.Geometries.{levels_below}
use Rattle.page_state.specs.Regions.{is_in_range}
use Rattle.page_state.specs.Rows.{advance_row}
use Rattle.reference_model.specs.model.State.{Vms, Shared, Guest, Cpu, plain_row}
use Rattle.table_tree.specs.View.{tree_of}
use Rattle.guest_component.specs.View.{guest_of}
use Rattle.part_types.specs.declared.parts.GuestPart.{GuestPart}
use Rattle.part_types.specs.declared.parts.SharedPart.{SharedPart}
use Rattle.part_types.specs.declared.parts.VmPart.{VmPart}
use Rattle.part_types.specs.declared.parts.CpuState.{CpuState}
use Rattle.vm_table.specs.View.{vms_of}

-- the VM part
abbrev pub vm_slots : VmPart → Vms
vm_slots v = vms_of v.table

-- the Shared part; a frame that has no row in the table is no memory frame, and has the plain one
abbrev pub shared_of : {A : Type 0} → SharedPart A → Shared
shared_of s =
    record {
      host = tree_of s.host.tree;
      hyp = tree_of s.hyp.tree;
      free = s.pool.frames;
      row = λ f. unwrap_or (row_at s.owners f) plain_row;
    }

-- the depth of its trees
abbrev pub depth_of : {A : Type 0} → SharedPart A → ℕ
depth_of s = levels_below s.host.tree.geometry

-- a Guest part
abbrev pub guest_held : {A : Type 0} → GuestPart A → Guest
guest_held g = guest_of g.guest

-- a CPU's own state
abbrev pub cpu_of : CpuState → Cpu
cpu_of k = record { loaded = k.loaded; hand = k.hand; ticket = k.ticket }

-- the Shared part with a row at a range, which advances along it
abbrev pub rows_given : PageRange → Row → Shared → Shared
rows_given frames row x =
    record x {
      row = λ f. if is_in_range frames f then advance_row row (f - frames.first.0)
          else x.row f;
    }
