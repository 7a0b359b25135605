-- Lists that stand for the same state as others.
use Rattle.std.proofs.Common.{◌≡◌, ℕ, Option, refl, ap, map}
use Rattle.std.specs.Prelude.{unwrap_or}
use Rattle.page_state.specs.declared.row.Row.{Row}
use Rattle.page_state.specs.Rows.{advance_row, plain_row}
use Rattle.run_list.specs.Runs.{run_map}
use Rattle.ghost_spec.specs.declared.shared.Shared.{Shared as SharedOfLists}
use Rattle.ghost_spec.specs.declared.lists.GhostLists.{GhostLists}
use Rattle.ghost_spec.specs.States.{slot_in, guest_in, rooms_in, ghost_state}
use Rattle.ghost_trees.specs.Trees.{tree_in_lists}
use Rattle.ghost_spec.specs.Views.{row_in, shared_in_lists}

abbrev rows-of : (ℕ → Option Row) → ℕ → Row
rows-of m f = unwrap_or (m f) plain_row

pub same_shared : (s t : SharedOfLists)
    → tree_in_lists s.host ≡ tree_in_lists t.host
    → tree_in_lists s.hyp ≡ tree_in_lists t.hyp
    → s.free.items ≡ t.free.items
    → run_map advance_row s.rows.runs ≡ run_map advance_row t.rows.runs
    → shared_in_lists s ≡ shared_in_lists t
same_shared s t host hyp free rows =
    let row : row_in s.rows.runs ≡ row_in t.rows.runs = ap rows-of rows in
    rw (host, hyp, free, row) refl

pub same_state : (g h : GhostLists)
    → map slot_in g.vms.items ≡ map slot_in h.vms.items
    → shared_in_lists g.shared ≡ shared_in_lists h.shared
    → map guest_in g.guests.items ≡ map guest_in h.guests.items
    → g.cpus.items ≡ h.cpus.items
    → rooms_in g.layout.config.log g.rooms ≡ rooms_in h.layout.config.log h.rooms
    → ghost_state g ≡ ghost_state h
same_state g h vms shared guests cpus rooms = rw (vms, shared, guests, cpus, rooms) refl
