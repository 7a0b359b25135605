-- A state with other trees, and the owner rows that follow from them.
use Rattle.std.specs.Prelude.{◌≡◌, ℕ, ◌+◌, ◌<◌, true, false, List, All, get_or, length, map}
use Rattle.page_state.specs.declared.row.Row.{Row}
use Rattle.page_state.specs.Layouts.{Layout, is_memory}
use Rattle.page_state.specs.LayoutView.{layout_of}
use Rattle.page_state.specs.Trees.{no_tree, Tree}
use Rattle.reference_model.specs.model.Owner.{row_of}
use Rattle.reference_model.specs.model.State.{Contents, Guest, no_guest, plain_row}
use Rattle.ghost_trees.specs.declared.tree.Tree.{Tree as TreeOfLists}
use Rattle.ghost_trees.specs.KeptTrees.{IsKeptTree}
use Rattle.ghost_trees.specs.Trees.{tree_in_lists}
use Rattle.ghost_spec.specs.declared.lists.GhostLists.{GhostLists}
use Rattle.ghost_spec.specs.declared.parts.GhostGuest.{GhostGuest}
use Rattle.ghost_spec.specs.States.{contents_in, guest_in}
use Rattle.table_audit.specs.declared.walked.Trees.{Trees}

-- the trees of a list by owner number: 0 the host's, 1 the hypervisor's, 2 + v that of the guest in
-- slot v
abbrev pub trees_in : List TreeOfLists → ℕ → Tree
trees_in trees n = get_or (map tree_in_lists trees) n no_tree

-- a guest with another tree
abbrev pub guest_with : Guest → Tree → Guest
guest_with g tree =
    record { phase = g.phase; generation = g.generation; kind = g.kind; tree = tree; free = g.free }

-- the first guests have other trees
abbrev pub AreTreesOf : List GhostGuest → List TreeOfLists → ℕ → List GhostGuest → Type 0
AreTreesOf guests trees n made =
    (v : ℕ)
    → v < n
    → get_or (map guest_in made) v no_guest
    ≡ guest_with (get_or (map guest_in guests) v no_guest) (trees_in trees (2 + v))

-- all parts with other trees
abbrev pub with_trees : Contents → (ℕ → Tree) → Contents
with_trees s trees = record {
  vms = s.vms;
  shared = record { host = trees 0; hyp = trees 1; free = s.shared.free; row = s.shared.row };
  guest = λ v. guest_with (s.guest v) (trees (2 + v));
  cpu = s.cpu;
}

-- the rows that follow: of each memory frame the one by all maps, tables, pools and hands
abbrev pub rows_by : Layout → Contents → ℕ → Row
rows_by l s f = elim (is_memory l f) [ true ↦ row_of l s f | false ↦ plain_row ]

-- with these rows
abbrev pub with_rows : Contents → (ℕ → Row) → Contents
with_rows s row =
    record {
      vms = s.vms;
      shared =
          record { host = s.shared.host; hyp = s.shared.hyp; free = s.shared.free; row = row };
      guest = s.guest;
      cpu = s.cpu;
    }

-- the state found: a kept state with the trees, and the rows that follow from it then
abbrev pub found : Layout → Contents → (ℕ → Tree) → Contents
found l s trees = with_rows (with_trees s trees) (rows_by l (with_trees s trees))

-- the state found with the trees of a list
abbrev pub found_with : GhostLists → List TreeOfLists → Contents
found_with kept trees = found (layout_of kept.layout) (contents_in kept) (trees_in trees)

-- the trees of the host, the hypervisor and the guests are those of a list
pub record AreTreesFrom (kept : List GhostGuest) (trees : List TreeOfLists)
    (t : Trees) : Type 0 where
  pub host : tree_in_lists t.host ≡ trees_in trees 0
  pub hyp : tree_in_lists t.hyp ≡ trees_in trees 1
  pub guests : AreTreesOf kept trees 64 t.guests.items
  pub count : length t.guests.items ≡ 64

-- and they are kept
pub record AreTreesKept (t : Trees) : Type 0 where
  pub host : IsKeptTree t.host
  pub hyp : IsKeptTree t.hyp
  pub guests : All (λ g. IsKeptTree g.tree) t.guests.items
