-- Trees whose tables lie in the heap may cross threads, and be looked at by several. A table's slots hold tables, so
-- both facts are shown of tables and slots together.
use denote.RattleType.{RattleType}
use denote.Hole.{as_row}
use denote.Hole.Fix.{Ring, holes}
use denote.Hole.FixSend.{Sends, Syncs, fix_send, fix_sync}
use denote.Param.Send.{IsSend, IsSync, sendable}
use denote.Param.SendFields.{declared_send, declared_sync, variants_send, variants_sync, as_row_send, as_row_sync}
use denote.Struct.Field.{row_field, u64-field}
use Rattle.std.proofs.Crossing.{crosses, Vec-send, Vec-sync, Box-send, Box-sync}
use Rattle.std.specs.contracts.boxed.Box as Box
use Rattle.std.specs.contracts.vec.Vec as Vec
use Rattle.std_heap.specs.contracts.Global as Heap
use Rattle.std_heap.specs.contracts.GlobalAllocator.TheImpl.{ghosts}
use Rattle.descriptor.specs.contracts.Frame as Frame
use Rattle.table_tree.specs.contracts.table.Table as Table
use Rattle.table_tree.specs.contracts.table.Slot as Slot
use Rattle.table_tree.specs.contracts.table.Slot.TheKnot as Knot
use Rattle.table_tree.specs.contracts.chain.Chain as Chain
use Rattle.page_state.specs.contracts.Geometry as Geometry
use Rattle.table_tree.specs.contracts.spares.Spares as Spares
use Rattle.table_tree.specs.contracts.tree.Tree as Tree

abbrev Member : Type 0
Member = Knot.the_members Heap.the_row ghosts

abbrev table : Member
table = Table.the_member Heap.the_row ghosts

abbrev slot : Member
slot = Slot.the_member Heap.the_row ghosts

abbrev ring : Ring Member
ring = Table.the_ring Heap.the_row ghosts

word_send : IsSend (as_row (row_field (as_row u64-field)))
word_send = search sendable

word_sync : IsSync (as_row (row_field (as_row u64-field)))
word_sync = search sendable

frame_send : IsSend (as_row (row_field (as_row Frame.the_field)))
frame_send = search sendable

frame_sync : IsSync (as_row (row_field (as_row Frame.the_field)))
frame_sync = search sendable

abbrev slots : (Member → RattleType) → RattleType
slots h = Vec.the_row (h slot) Heap.the_row ghosts

abbrev child : (Member → RattleType) → RattleType
child h = Box.the_row (h table) Heap.the_row ghosts

-- one table crosses where what its slots hold does, and one slot where the table that it holds does
table_sends : Sends ring table
table_sends =
    record {
      send = λ h all. declared_send (Table.the_layer Heap.the_row ghosts h)
          (frame_send, (as_row_send (row_field (slots h)) (Vec-send (h slot) (all slot)), tt));
    }

slot_sends : Sends ring slot
slot_sends =
    record {
      send = λ h all. variants_send (Knot.type-Slot Heap.the_row ghosts (h table))
          ((word_send, tt), ((as_row_send (row_field (child h)) (Box-send (h table) (all table)), tt), tt));
    }

table_syncs : Syncs ring table
table_syncs =
    record {
      sync = λ h all. declared_sync (Table.the_layer Heap.the_row ghosts h)
          (frame_sync, (as_row_sync (row_field (slots h)) (Vec-sync (h slot) (all slot)), tt));
    }

slot_syncs : Syncs ring slot
slot_syncs =
    record {
      sync = λ h all. variants_sync (Knot.type-Slot Heap.the_row ghosts (h table))
          ((word_sync, tt), ((as_row_sync (row_field (child h)) (Box-sync (h table) (all table)), tt), tt));
    }

all_send : (i : Member) → IsSend (holes ring i)
all_send = fix_send ring (Table.by_members Heap.the_row ghosts (Sends ring) slot_sends table_sends)

all_sync : (i : Member) → IsSync (holes ring i)
all_sync = fix_sync ring (Table.by_members Heap.the_row ghosts (Syncs ring) slot_syncs table_syncs)

slot_send : IsSend (Slot.the_hole Heap.the_row ghosts)
slot_send = all_send slot

slot_sync : IsSync (Slot.the_hole Heap.the_row ghosts)
slot_sync = all_sync slot

child_send : IsSend (Table.the_hole Heap.the_row ghosts)
child_send = all_send table

child_sync : IsSync (Table.the_hole Heap.the_row ghosts)
child_sync = all_sync table

pub table_send : IsSend (Table.the_row Heap.the_row ghosts)
table_send = search (sendable, crosses, slot_send) depth 30

pub table_sync : IsSync (Table.the_row Heap.the_row ghosts)
table_sync = search (sendable, crosses, slot_sync) depth 30

chain_send : IsSend (Chain.the_row Heap.the_row ghosts)
chain_send = search (sendable, crosses, child_send) depth 30

chain_sync : IsSync (Chain.the_row Heap.the_row ghosts)
chain_sync = search (sendable, crosses, child_sync) depth 30

spares_send : IsSend (Spares.the_row Heap.the_row ghosts)
spares_send = search (declared_send, chain_send)

spares_sync : IsSync (Spares.the_row Heap.the_row ghosts)
spares_sync = search (declared_sync, chain_sync)

geometry_send : IsSend Geometry.the_row
geometry_send = search sendable depth 30

geometry_sync : IsSync Geometry.the_row
geometry_sync = search sendable depth 30

pub tree_send : IsSend (Tree.the_row Heap.the_row ghosts)
tree_send = declared_send (Tree.the_type Heap.the_row ghosts) (geometry_send, (table_send, (spares_send, tt)))

pub tree_sync : IsSync (Tree.the_row Heap.the_row ghosts)
tree_sync = declared_sync (Tree.the_type Heap.the_row ghosts) (geometry_sync, (table_sync, (spares_sync, tt)))
