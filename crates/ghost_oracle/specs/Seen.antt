-- Trees, poked or not, as they are seen from outside.
use Rattle.std.specs.Prelude.{ℕ, List, Option, Some, None}
use Rattle.page_state.specs.Trees.{Tree as ReferenceTree, no_tree}
use Rattle.table_tree.specs.declared.raw.RawTree.{RawTree}
use Rattle.table_tree.specs.declared.tree.Tree.{Tree}
use Rattle.table_tree.specs.RawView.{raw_word_of, raw_tree_of}
use Rattle.table_tree.specs.View.{word_of, tree_of}
use Rattle.guest_component.specs.declared.body.Body.{Body}
use Rattle.part_types.specs.declared.parts.GuestPart.{GuestPart}
use Rattle.ghost_oracle.specs.declared.raw.RawGuest.{RawGuest}

-- the word at each path, and the map and the table at each block
pub record SeenTree : Type 0 where
  pub words : List ℕ → Option ℕ
  pub tree : ReferenceTree

-- of an Empty guest
abbrev pub nothing_seen : SeenTree
nothing_seen = record { words = λ path. None; tree = no_tree }

abbrev pub tree_seen : {A : Type 0} → Tree A → SeenTree
tree_seen t = record { words = word_of t; tree = tree_of t }

abbrev pub raw_seen : {A : Type 0} → RawTree A → SeenTree
raw_seen t = record { words = raw_word_of t; tree = raw_tree_of t }

-- of what a guest holds
abbrev pub body_seen : {A : Type 0} → Option (Body A) → SeenTree
body_seen None = nothing_seen
body_seen (Some b) = tree_seen b.map.tree

-- the tree of a slot: of the poked guest, if there is one
abbrev pub slot_seen : {A : Type 0} → GuestPart A → Option (RawGuest A) → SeenTree
slot_seen g None = body_seen g.guest.body
slot_seen g (Some r) = raw_seen r.map.tree

-- of a guest that was taken from its slot
abbrev pub taken_seen : {A : Type 0} → Option (RawGuest A) → SeenTree
taken_seen None = nothing_seen
taken_seen (Some r) = raw_seen r.map.tree
