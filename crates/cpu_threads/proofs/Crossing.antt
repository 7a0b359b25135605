-- A pass may cross to another thread, and a machine may be shared by threads, where the tables of all trees lie in the
-- heap.
use denote.RattleType.{RattleType}
use denote.Hole.{as_row}
use denote.Param.Send.{IsSend, IsSync, sendable, part_keyless}
use denote.Param.SendFields.{declared_send, declared_sync, variants_send, variants_sync}
use denote.Struct.Field.{u64-field}
use Rattle.std.proofs.Crossing.{crosses, send, sync, frees}
use Rattle.std.specs.contracts.option.Option as Option
use Rattle.std_heap.specs.contracts.Global as Heap
use Rattle.std_heap.specs.contracts.GlobalAllocator.TheImpl.{ghosts}
use Rattle.atomic_table.proofs.send_lease.SendLease.TheSendSync as LeaseSend
use Rattle.atomic_table.proofs.shared.Seat.TheSendSync as SeatSend
use Rattle.atomic_table.proofs.shared.Shared.TheSendSync as SharedSend
use Rattle.atomic_table.specs.contracts.shared.Seat as Seat
use Rattle.call_table.specs.contracts.Call as Call
use Rattle.page_state.specs.contracts.Geometry as Geometry
use Rattle.page_state.specs.contracts.Layout as Layout
use Rattle.page_state.specs.contracts.PageRange as PageRange
use Rattle.call_table.specs.contracts.Reply as Reply
use Rattle.call_table.specs.contracts.Step as Step
use Rattle.call_table.specs.contracts.VmId as VmId
use Rattle.call_table.specs.contracts.VmKind as VmKind
use Rattle.reference_model.specs.contracts.Loaded as Loaded
use Rattle.reference_model.specs.contracts.Stage as Stage
use Rattle.reference_model.specs.contracts.Ticket as Ticket
use Rattle.table_tree.proofs.Crossing.{tree_send, tree_sync}
use Rattle.maplets.specs.contracts.Maplets as Maplets
use Rattle.hyp_pool.specs.contracts.Pool as Pool
use Rattle.owner_table.specs.contracts.OwnerTable as OwnerTable
use Rattle.vm_table.specs.contracts.VmTable as VmTable
use Rattle.component.specs.contracts.Component as Component
use Rattle.guest_component.specs.contracts.Body as Body
use Rattle.guest_component.specs.contracts.Guest as Guest
use Rattle.guest_component.specs.contracts.Phase as Phase
use Rattle.part_types.specs.contracts.Log as Log
use Rattle.part_types.specs.contracts.VmPart as VmPart
use Rattle.part_types.specs.contracts.SharedPart as SharedPart
use Rattle.part_types.specs.contracts.GuestPart as GuestPart
use Rattle.part_types.specs.contracts.CpuState as CpuState
use Rattle.part_table.specs.contracts.CpuPass as CpuPass
use Rattle.part_table.specs.contracts.PartTable as PartTable
use Rattle.part_table.specs.contracts.Slot as Slot
use Rattle.part_table.specs.contracts.rule.View as View
use Rattle.cpu_threads.specs.contracts.machine.Machine as Machine

number_send : IsSend (as_row u64-field)
number_send = search (sendable, crosses) depth 40 fits 5000

number_sync : IsSync (as_row u64-field)
number_sync = search (sendable, crosses) depth 40 fits 5000

kind_send : IsSend VmKind.the_row
kind_send = search (sendable, crosses) depth 40 fits 5000

kind_sync : IsSync VmKind.the_row
kind_sync = search (sendable, crosses) depth 40 fits 5000

range_send : IsSend PageRange.the_row
range_send = search (sendable, crosses) depth 40 fits 5000

range_sync : IsSync PageRange.the_row
range_sync = search (sendable, crosses) depth 40 fits 5000

geometry_send : IsSend Geometry.the_row
geometry_send = search (sendable, crosses) depth 40 fits 5000

geometry_sync : IsSync Geometry.the_row
geometry_sync = search (sendable, crosses) depth 40 fits 5000

layout_send : IsSend Layout.the_row
layout_send = search (sendable, crosses) depth 40 fits 5000

layout_sync : IsSync Layout.the_row
layout_sync = search (sendable, crosses) depth 40 fits 5000

maplets_send : IsSend Maplets.the_row
maplets_send = search (sendable, crosses) depth 40 fits 5000

maplets_sync : IsSync Maplets.the_row
maplets_sync = search (sendable, crosses) depth 40 fits 5000

pool_send : IsSend Pool.the_row
pool_send = search (sendable, crosses) depth 40 fits 5000

pool_sync : IsSync Pool.the_row
pool_sync = search (sendable, crosses) depth 40 fits 5000

rows_send : IsSend OwnerTable.the_row
rows_send = search (sendable, crosses) depth 40 fits 5000

rows_sync : IsSync OwnerTable.the_row
rows_sync = search (sendable, crosses) depth 40 fits 5000

vms_send : IsSend VmTable.the_row
vms_send = search (sendable, crosses) depth 40 fits 5000

vms_sync : IsSync VmTable.the_row
vms_sync = search (sendable, crosses) depth 40 fits 5000

vm_send : IsSend VmId.the_row
vm_send = search (sendable, crosses) depth 40 fits 5000

vm_sync : IsSync VmId.the_row
vm_sync = search (sendable, crosses) depth 40 fits 5000

stage_send : IsSend Stage.the_row
stage_send = search (sendable, crosses) depth 40 fits 5000

stage_sync : IsSync Stage.the_row
stage_sync = search (sendable, crosses) depth 40 fits 5000

step_send : IsSend Step.the_row
step_send = search (sendable, crosses) depth 40 fits 5000

step_sync : IsSync Step.the_row
step_sync = search (sendable, crosses) depth 40 fits 5000

reply_send : IsSend Reply.the_row
reply_send = search (sendable, crosses) depth 40 fits 5000

reply_sync : IsSync Reply.the_row
reply_sync = search (sendable, crosses) depth 40 fits 5000

slot_of_call_send : IsSend (Option.the_row (as_row u64-field))
slot_of_call_send = search (sendable, crosses) depth 40 fits 5000

slot_of_call_sync : IsSync (Option.the_row (as_row u64-field))
slot_of_call_sync = search (sendable, crosses) depth 40 fits 5000

call_send : IsSend Call.the_row
call_send = declared_send Call.the_type (number_send, (number_send, (step_send, (reply_send, (slot_of_call_send, tt)))))

call_sync : IsSync Call.the_row
call_sync = declared_sync Call.the_type (number_sync, (number_sync, (step_sync, (reply_sync, (slot_of_call_sync, tt)))))

log_send : IsSend Log.the_row
log_send = search (sendable, crosses, call_send) depth 40 fits 5000

log_sync : IsSync Log.the_row
log_sync = search (sendable, crosses, call_sync) depth 40 fits 5000

loaded_send : IsSend Loaded.the_row
loaded_send = declared_send Loaded.the_type (vm_send, (number_send, tt))

loaded_sync : IsSync Loaded.the_row
loaded_sync = declared_sync Loaded.the_type (vm_sync, (number_sync, tt))

ticket_send : IsSend Ticket.the_row
ticket_send = declared_send Ticket.the_type (vm_send, (kind_send, (stage_send, tt)))

ticket_sync : IsSync Ticket.the_row
ticket_sync = declared_sync Ticket.the_type (vm_sync, (kind_sync, (stage_sync, tt)))

maybe_loaded_send : IsSend (Option.the_row Loaded.the_row)
maybe_loaded_send = search (sendable, loaded_send) depth 40

maybe_loaded_sync : IsSync (Option.the_row Loaded.the_row)
maybe_loaded_sync = search (sendable, loaded_sync) depth 40

maybe_range_send : IsSend (Option.the_row PageRange.the_row)
maybe_range_send = search (sendable, range_send) depth 40

maybe_range_sync : IsSync (Option.the_row PageRange.the_row)
maybe_range_sync = search (sendable, range_sync) depth 40

maybe_ticket_send : IsSend (Option.the_row Ticket.the_row)
maybe_ticket_send = search (sendable, ticket_send) depth 40

maybe_ticket_sync : IsSync (Option.the_row Ticket.the_row)
maybe_ticket_sync = search (sendable, ticket_sync) depth 40

cpu_send : IsSend CpuState.the_row
cpu_send =
    declared_send CpuState.the_type
    (number_send, (maybe_loaded_send, (maybe_range_send, (maybe_ticket_send, (log_send, tt)))))

cpu_sync : IsSync CpuState.the_row
cpu_sync =
    declared_sync CpuState.the_type
    (number_sync, (maybe_loaded_sync, (maybe_range_sync, (maybe_ticket_sync, (log_sync, tt)))))

component_send : IsSend (Component.the_row Heap.the_row ghosts)
component_send = declared_send (Component.the_type Heap.the_row ghosts) (tree_send, (maplets_send, tt))

component_sync : IsSync (Component.the_row Heap.the_row ghosts)
component_sync = declared_sync (Component.the_type Heap.the_row ghosts) (tree_sync, (maplets_sync, tt))

vm_part_send : IsSend VmPart.the_row
vm_part_send = declared_send VmPart.the_type (vms_send, (log_send, tt))

vm_part_sync : IsSync VmPart.the_row
vm_part_sync = declared_sync VmPart.the_type (vms_sync, (log_sync, tt))

shared_send : IsSend (SharedPart.the_row Heap.the_row ghosts)
shared_send =
    declared_send (SharedPart.the_type Heap.the_row ghosts)
    (component_send, (component_send, (pool_send, (rows_send, (log_send, tt)))))

shared_sync : IsSync (SharedPart.the_row Heap.the_row ghosts)
shared_sync =
    declared_sync (SharedPart.the_type Heap.the_row ghosts)
    (component_sync, (component_sync, (pool_sync, (rows_sync, (log_sync, tt)))))

phase_send : IsSend Phase.the_row
phase_send = search (sendable, crosses) depth 40 fits 5000

phase_sync : IsSync Phase.the_row
phase_sync = search (sendable, crosses) depth 40 fits 5000

body_send : IsSend (Body.the_row Heap.the_row ghosts)
body_send =
    declared_send (Body.the_type Heap.the_row ghosts)
    (phase_send, (number_send, (kind_send, (component_send, (pool_send, tt)))))

body_sync : IsSync (Body.the_row Heap.the_row ghosts)
body_sync =
    declared_sync (Body.the_type Heap.the_row ghosts)
    (phase_sync, (number_sync, (kind_sync, (component_sync, (pool_sync, tt)))))

maybe_body_send : IsSend (Option.the_row (Body.the_row Heap.the_row ghosts))
maybe_body_send = search (sendable, body_send) depth 40

maybe_body_sync : IsSync (Option.the_row (Body.the_row Heap.the_row ghosts))
maybe_body_sync = search (sendable, body_sync) depth 40

guest_send : IsSend (Guest.the_row Heap.the_row ghosts)
guest_send = declared_send (Guest.the_type Heap.the_row ghosts) (send, (geometry_send, (maybe_body_send, tt)))

guest_sync : IsSync (Guest.the_row Heap.the_row ghosts)
guest_sync = declared_sync (Guest.the_type Heap.the_row ghosts) (sync, (geometry_sync, (maybe_body_sync, tt)))

guest_part_send : IsSend (GuestPart.the_row Heap.the_row ghosts)
guest_part_send = declared_send (GuestPart.the_type Heap.the_row ghosts) (guest_send, (log_send, tt))

guest_part_sync : IsSync (GuestPart.the_row Heap.the_row ghosts)
guest_part_sync = declared_sync (GuestPart.the_type Heap.the_row ghosts) (guest_sync, (log_sync, tt))

part_send : IsSend (Slot.the_row Heap.the_row ghosts)
part_send =
    variants_send (Slot.enum Heap.the_row ghosts) ((vm_part_send, tt), ((shared_send, tt), ((guest_part_send, tt), tt)))

part_sync : IsSync (Slot.the_row Heap.the_row ghosts)
part_sync =
    variants_sync (Slot.enum Heap.the_row ghosts) ((vm_part_sync, tt), ((shared_sync, tt), ((guest_part_sync, tt), tt)))

abbrev slot : RattleType
slot = Option.the_row (Slot.the_row Heap.the_row ghosts)

abbrev view : RattleType
view = View.the_row Heap.the_row ghosts

slot_send : IsSend slot
slot_send = search (sendable, part_send) depth 40

slot_sync : IsSync slot
slot_sync = search (sendable, part_sync) depth 40

seat_send : IsSend (Seat.the_row slot view)
seat_send = SeatSend.the_send slot view slot_send

-- a `&` to a seat shares a part of what the seat owns
seat_sync : IsSync (Seat.the_row slot view)
seat_sync = record { shared = λ d b o ν q. part_keyless (Seat.the_row slot view) seat_send q d b o }

pub pass_send : IsSend (CpuPass.the_row Heap.the_row ghosts)
pass_send =
    search (
      sendable,
      crosses,
      call_send,
      slot_send,
      log_send,
      maybe_loaded_send,
      maybe_range_send,
      maybe_ticket_send,
      shared_send,
      guest_part_send,
      SeatSend.the_send,
    ) depth 40 fits 5000

pub pass_sync : IsSync (CpuPass.the_row Heap.the_row ghosts)
pass_sync =
    search (
      sendable,
      crosses,
      call_sync,
      slot_sync,
      log_sync,
      maybe_loaded_sync,
      maybe_range_sync,
      maybe_ticket_sync,
      shared_sync,
      guest_part_sync,
      seat_sync,
    ) depth 40 fits 5000

maybe_pass_send : IsSend (Option.the_row (CpuPass.the_row Heap.the_row ghosts))
maybe_pass_send = search (sendable, pass_send) depth 40

maybe_pass_sync : IsSync (Option.the_row (CpuPass.the_row Heap.the_row ghosts))
maybe_pass_sync = search (sendable, pass_sync) depth 40

table_sync : IsSync (PartTable.the_row Heap.the_row ghosts)
table_sync =
    search (
      sendable,
      crosses,
      slot_send,
      seat_sync,
      layout_sync,
      SharedSend.the_sync,
      LeaseSend.the_sync,
      sync,
      send,
      frees,
    ) depth 40 fits 5000

pub machine_sync : IsSync (Machine.the_row Heap.the_row ghosts)
machine_sync = search (sendable, crosses, table_sync, maybe_pass_sync) depth 40 fits 5000
