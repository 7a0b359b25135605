-- States with other owner rows, and what a state on lists says of maplets.
use Rattle.std.specs.Prelude.{◌≡◌, ℕ, true, false, is_some, map}
use Rattle.page_state.specs.declared.row.Row.{Row}
use Rattle.page_state.specs.Layouts.{Layout, is_memory}
use Rattle.page_state.specs.Rows.{advance_row}
use Rattle.reference_model.specs.model.Owner.{row_of}
use Rattle.reference_model.specs.model.State.{Shared, Contents, Reference, plain_row}
use Rattle.run_list.specs.Runs.{run_map}
use Rattle.guest_component.specs.View.{runs_of}
use Rattle.hypercalls.specs.declared.parts.Parts.{Parts}
use Rattle.ghost_spec.specs.declared.lists.GhostLists.{GhostLists}

-- the Shared part with other rows
abbrev pub with_row : (ℕ → Row) → Shared → Shared
with_row row s = record s { row = row }

-- a state with other rows
abbrev pub found_state : (ℕ → Row) → Reference → Reference
found_state row s =
    record {
      contents = record s.contents { shared = with_row row s.contents.shared };
      rooms = s.rooms;
    }

-- the rows from scratch: of each memory frame the one that looking through all maps, tables, pools
-- and hands finds
abbrev pub scratch_rows : Layout → Contents → ℕ → Row
scratch_rows l s f = elim (is_memory l f) [ true ↦ row_of l s f | false ↦ plain_row ]

-- a state whose rows are those from scratch
abbrev pub walked_state : Layout → Reference → Reference
walked_state l s = found_state (scratch_rows l s.contents) s

-- its runs are those that the maplets of the parts keep
pub record HasSameMaplets {A : Type 0} (p : Parts A) (g : GhostLists) : Type 0 where
  pub host : g.shared.host.runs.items ≡ p.shared.host.maplets.runs
  pub hyp : g.shared.hyp.runs.items ≡ p.shared.hyp.maplets.runs
  pub guests : map (λ x. x.tree.runs.items) g.guests.items
      ≡ map (λ x. runs_of x.guest.body) p.guests.items

-- its rows are those that the owner table of the parts keeps
abbrev pub HasSameRows : {A : Type 0} → Parts A → GhostLists → Type 0
HasSameRows p g = run_map advance_row g.shared.rows.runs ≡ run_map advance_row p.shared.owners

-- a frame has a row if and only if it is a memory frame
abbrev pub HasRowsOf : Layout → GhostLists → Type 0
HasRowsOf l g = (f : ℕ) → is_some (run_map advance_row g.shared.rows.runs f) ≡ is_memory l f
