-- Counts of reads: how many tables a walk of parts goes through, and the count after it.
use Rattle.std.specs.Prelude.{◌≡◌, ℕ, ◌+◌, ◌*◌, min, Option, Some, None, sum_by}
use Rattle.table_tree.specs.View.{tables_of}
use Rattle.guest_component.specs.declared.body.Body.{Body}
use Rattle.part_types.specs.declared.parts.GuestPart.{GuestPart}
use Rattle.part_types.specs.declared.parts.SharedPart.{SharedPart}
use Rattle.hypercalls.specs.declared.parts.Parts.{Parts}
use Rattle.hypercalls.specs.Stands.{at_place}
use Rattle.ghost_oracle.specs.Recorded.{Given}

-- the count after each word of `tables` tables was read, 512 words each. The greatest u64 stays
abbrev pub HasRead : ℕ → ℕ → ℕ → Type 0
HasRead before tables after = after ≡ min (before + 512 * tables) 18446744073709551615

module _ {A : Type 0} where
  -- the tables of what a guest holds; an Empty guest has none
  abbrev pub body_tables : Option (Body A) → ℕ
  body_tables None = 0
  body_tables (Some b) = tables_of b.map.tree

  -- the tables of a guest's tree
  abbrev pub guest_tables : GuestPart A → ℕ
  guest_tables g = body_tables g.guest.body

  -- those of a guest that may be given with its slot
  abbrev pub slot_tables : Option (ℕ × GuestPart A) → ℕ
  slot_tables None = 0
  slot_tables (Some g) = guest_tables g.1

  -- the tables of the host's tree and the hypervisor's
  abbrev pub shared_tables : SharedPart A → ℕ
  shared_tables s = tables_of s.host.tree + tables_of s.hyp.tree

  -- the tables of all trees: the host's, the hypervisor's and each guest's
  abbrev pub tables_of_parts : Parts A → ℕ
  tables_of_parts p = shared_tables p.shared + sum_by guest_tables p.guests.items

  -- the tables of the parts that are given to a record
  abbrev pub tables_given : Given A → ℕ
  tables_given x = at_place 0 shared_tables x.shared + slot_tables x.guest
