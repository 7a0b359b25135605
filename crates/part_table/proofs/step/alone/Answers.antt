use Rattle.std.proofs.Common.{◌≢◌, ◌∷◌, [], ◌-◌, ◌∙◌, Some, None, ap, sym, subst, refl, arith}
use Rattle.page_state.specs.LayoutView.{layout_of}
use Rattle.part_types.specs.Lent.{lent_guest, lent_shared, lent_vms, logs_in}
use Rattle.part_types.specs.View.{cpu_of}
use Rattle.reference_model.specs.model.Rules.{guest_slot}
use Rattle.hypercalls.specs.Uses.{uses_of}
use Rattle.hypercalls.proofs.Lends.{vms_anywhere}
use Rattle.hypercalls.proofs.Stepping.{none_full}
use Rattle.hypercalls.proofs.Using.{guest, shared, vms}
use Rattle.part_table.specs.declared.slot.Slot.{Slot}
use Rattle.part_table.specs.declared.slot.Slot.TheVariants.{Vm as VmSlot, Shared as SharedSlot, Guest as GuestSlot}
use Rattle.part_table.specs.Does.{Does, IsLeft, only_at}
use Rattle.part_table.specs.Parts.{log_of}
use Rattle.part_table.proofs.Holding.{only_here}
use Rattle.part_table.proofs.SteppingByNumber.{guest_only, guest_used, shared_only, shared_used, vms_only, vms_used}
use Rattle.part_table.proofs.SteppingOn.{asks_reached, asks_suits, gives, guest_as, guest_past, not_full, shared_as, shared_at, shared_did, shared_left, vms_as, vms_at, vms_did, vms_left, some_made, stores}
use Rattle.part_table.proofs.step.alone.Goals as goal

pub step_on_vms-requires-clause-uses : goal.step_on_vms-requires-clause-uses
step_on_vms-requires-clause-uses g c =
    (vms_used (uses_of (cpu_of c.args.cpu.now) c.args.step)
    (c.requires.can.uses
    ∙ ap (λ n. n ∷ []) (vms_at c.args.cpu.now.id c.args.cpu.now c.args.k c.requires.can.left c.in-Vm.is)))

pub step_on_vms-requires-clause-suits : goal.step_on_vms-requires-clause-suits
step_on_vms-requires-clause-suits g c =
    (asks_suits
    (vms_as (layout_of c.args.layout.now) c.args.step c.args.cpu.now c.in-Vm.part
    (vms_used (uses_of (cpu_of c.args.cpu.now) c.args.step)
    (c.requires.can.uses
    ∙ ap (λ n. n ∷ [])
    (vms_at c.args.cpu.now.id c.args.cpu.now c.args.k c.requires.can.left c.in-Vm.is)))
    (vms_left c.args.cpu.now.id c.args.cpu.now c.args.k c.requires.can.left c.in-Vm.is))).vms

pub step_on_vms-requires-clause-own : goal.step_on_vms-requires-clause-own
step_on_vms-requires-clause-own g c =
    (asks_suits
    (vms_as (layout_of c.args.layout.now) c.args.step c.args.cpu.now c.in-Vm.part
    (vms_used (uses_of (cpu_of c.args.cpu.now) c.args.step)
    (c.requires.can.uses
    ∙ ap (λ n. n ∷ [])
    (vms_at c.args.cpu.now.id c.args.cpu.now c.args.k c.requires.can.left c.in-Vm.is)))
    (vms_left c.args.cpu.now.id c.args.cpu.now c.args.k c.requires.can.left c.in-Vm.is))).cpu

pub step_on_vms-requires-clause-reached : goal.step_on_vms-requires-clause-reached
step_on_vms-requires-clause-reached g c =
    asks_reached
    (vms_as (layout_of c.args.layout.now) c.args.step c.args.cpu.now c.in-Vm.part
    (vms_used (uses_of (cpu_of c.args.cpu.now) c.args.step)
    (c.requires.can.uses
    ∙ ap (λ n. n ∷ [])
    (vms_at c.args.cpu.now.id c.args.cpu.now c.args.k c.requires.can.left c.in-Vm.is)))
    (vms_left c.args.cpu.now.id c.args.cpu.now c.args.k c.requires.can.left c.in-Vm.is)) None
    (vms (cpu_of c.args.cpu.now) c.args.step
    (vms_used (uses_of (cpu_of c.args.cpu.now) c.args.step)
    (c.requires.can.uses
    ∙ ap (λ n. n ∷ [])
    (vms_at c.args.cpu.now.id c.args.cpu.now c.args.k c.requires.can.left c.in-Vm.is)))).slot

pub returns-in-Vm-clause-does : goal.returns-in-Vm-clause-does
returns-in-Vm-clause-does g c =
    vms_did c.args.cpu.now.id c.args.cpu.now c.args.k c.requires.can.left c.in-Vm.is (VmSlot c.step_on_vms.new.vms)
    (gives
    (vms_as (layout_of c.args.layout.now) c.args.step c.args.cpu.now c.in-Vm.part
    (vms_used (uses_of (cpu_of c.args.cpu.now) c.args.step)
    (c.requires.can.uses
    ∙ ap (λ n. n ∷ [])
    (vms_at c.args.cpu.now.id c.args.cpu.now c.args.k c.requires.can.left c.in-Vm.is)))
    (vms_left c.args.cpu.now.id c.args.cpu.now c.args.k c.requires.can.left
    c.in-Vm.is)) c.step_on_vms.result
    (lent_vms {A = g.row.A.Denot} c.step_on_vms.new.vms c.step_on_vms.new.cpu)
    (none_full (logs_in (lent_vms {A = g.row.A.Denot} c.in-Vm.part c.args.cpu.now))
    (not_full c.args.cpu.now.log.room c.requires.can.own_room)
    (not_full c.in-Vm.part.log.room
    (subst (λ (x : Slot g.row.A.Denot). (log_of x).room ≢ 0) c.in-Vm.is
    (c.requires.can.rooms c.args.k c.args.slot (only_here c.args.k c.args.slot)))) refl refl)
    (vms_anywhere
    (layout_of c.args.layout.now) c.args.step c.in-Vm.part c.step_on_vms.new.vms c.args.cpu.now
    c.step_on_vms.new.cpu c.step_on_vms.result c.step_on_vms.ensures.step)
    c.unwrap-call.result c.unwrap-call.ensures (only_at 0 (VmSlot c.step_on_vms.new.vms))
    (record { vms = c.step_on_vms.ensures.suits; shared = tt; guest = tt; cpu = c.step_on_vms.ensures.own })
    (vms_only (guest_slot (cpu_of c.args.cpu.now) c.args.step) c.step_on_vms.new.cpu c.step_on_vms.new.vms))

pub step_on_shared-requires-clause-uses : goal.step_on_shared-requires-clause-uses
step_on_shared-requires-clause-uses g c =
    (shared_used (uses_of (cpu_of c.args.cpu.now) c.args.step)
    (c.requires.can.uses
    ∙ ap (λ n. n ∷ [])
    (shared_at c.args.cpu.now.id c.args.cpu.now c.args.k c.requires.can.left c.in-Shared.is)))

pub step_on_shared-requires-clause-suits : goal.step_on_shared-requires-clause-suits
step_on_shared-requires-clause-suits g c =
    (asks_suits
    (shared_as (layout_of c.args.layout.now) c.args.step c.args.cpu.now c.in-Shared.part
    (shared_used (uses_of (cpu_of c.args.cpu.now) c.args.step)
    (c.requires.can.uses
    ∙ ap (λ n. n ∷ [])
    (shared_at c.args.cpu.now.id c.args.cpu.now c.args.k c.requires.can.left c.in-Shared.is)))
    (shared_left c.args.cpu.now.id c.args.cpu.now c.args.k c.requires.can.left c.in-Shared.is))).shared

pub step_on_shared-requires-clause-own : goal.step_on_shared-requires-clause-own
step_on_shared-requires-clause-own g c =
    (asks_suits
    (shared_as (layout_of c.args.layout.now) c.args.step c.args.cpu.now c.in-Shared.part
    (shared_used (uses_of (cpu_of c.args.cpu.now) c.args.step)
    (c.requires.can.uses
    ∙ ap (λ n. n ∷ [])
    (shared_at c.args.cpu.now.id c.args.cpu.now c.args.k c.requires.can.left c.in-Shared.is)))
    (shared_left c.args.cpu.now.id c.args.cpu.now c.args.k c.requires.can.left c.in-Shared.is))).cpu

pub step_on_shared-requires-clause-reached : goal.step_on_shared-requires-clause-reached
step_on_shared-requires-clause-reached g c =
    asks_reached
    (shared_as (layout_of c.args.layout.now) c.args.step c.args.cpu.now c.in-Shared.part
    (shared_used (uses_of (cpu_of c.args.cpu.now) c.args.step)
    (c.requires.can.uses
    ∙ ap (λ n. n ∷ [])
    (shared_at c.args.cpu.now.id c.args.cpu.now c.args.k c.requires.can.left c.in-Shared.is)))
    (shared_left c.args.cpu.now.id c.args.cpu.now c.args.k c.requires.can.left c.in-Shared.is)) None
    (shared (cpu_of c.args.cpu.now) c.args.step
    (shared_used (uses_of (cpu_of c.args.cpu.now) c.args.step)
    (c.requires.can.uses
    ∙ ap (λ n. n ∷ [])
    (shared_at c.args.cpu.now.id c.args.cpu.now c.args.k c.requires.can.left
    c.in-Shared.is)))).slot

pub returns-in-Shared-clause-does : goal.returns-in-Shared-clause-does
returns-in-Shared-clause-does g c =
    shared_did c.args.cpu.now.id c.args.cpu.now c.args.k c.requires.can.left c.in-Shared.is
    (SharedSlot c.step_on_shared.new.shared)
    (gives
    (shared_as (layout_of c.args.layout.now) c.args.step c.args.cpu.now c.in-Shared.part
    (shared_used (uses_of (cpu_of c.args.cpu.now) c.args.step)
    (c.requires.can.uses
    ∙ ap (λ n. n ∷ [])
    (shared_at c.args.cpu.now.id c.args.cpu.now c.args.k c.requires.can.left
    c.in-Shared.is)))
    (shared_left c.args.cpu.now.id c.args.cpu.now c.args.k c.requires.can.left
    c.in-Shared.is)) c.step_on_shared.result
    (lent_shared c.step_on_shared.new.shared c.step_on_shared.new.cpu)
    (none_full (logs_in (lent_shared c.in-Shared.part c.args.cpu.now))
    (not_full c.args.cpu.now.log.room c.requires.can.own_room) refl
    (not_full c.in-Shared.part.log.room
    (subst (λ (x : Slot g.row.A.Denot). (log_of x).room ≢ 0) c.in-Shared.is
    (c.requires.can.rooms c.args.k c.args.slot
    (only_here c.args.k c.args.slot)))) refl) c.step_on_shared.ensures.step
    c.unwrap-call-in-Shared.result c.unwrap-call-in-Shared.ensures (only_at 1 (SharedSlot c.step_on_shared.new.shared))
    (record { vms = tt; shared = c.step_on_shared.ensures.suits; guest = tt; cpu = c.step_on_shared.ensures.own })
    (shared_only
    (guest_slot (cpu_of c.args.cpu.now) c.args.step) c.step_on_shared.new.cpu c.step_on_shared.new.shared))

pub step_on_guest-requires-clause-uses : goal.step_on_guest-requires-clause-uses
step_on_guest-requires-clause-uses g c =
    (guest_used (uses_of (cpu_of c.args.cpu.now) c.args.step) c.args.k
    (guest_past
    (layout_of c.args.layout.now) c.args.cpu.now.id c.args.cpu.now c.args.k c.args.slot c.in-Guest.part
    c.in-Guest.is c.requires.can.left) c.requires.can.uses)

pub step_on_guest-requires-clause-suits : goal.step_on_guest-requires-clause-suits
step_on_guest-requires-clause-suits g c =
    (asks_suits
    (guest_as (layout_of c.args.layout.now) c.args.step c.args.cpu.now (c.args.k - 2) c.args.k c.in-Guest.part
    (let less =
    (guest_past
    (layout_of c.args.layout.now) c.args.cpu.now.id c.args.cpu.now c.args.k c.args.slot c.in-Guest.part
    c.in-Guest.is c.requires.can.left) in
    omega (arith, less))
    (guest_used (uses_of (cpu_of c.args.cpu.now) c.args.step) c.args.k
    (guest_past
    (layout_of c.args.layout.now) c.args.cpu.now.id c.args.cpu.now c.args.k c.args.slot
    c.in-Guest.part c.in-Guest.is c.requires.can.left) c.requires.can.uses)
    (subst
    (λ (x : Slot g.row.A.Denot). ∥ IsLeft
    (layout_of c.args.layout.now) c.args.cpu.now.id c.args.cpu.now
    (only_at c.args.k x) ∥₁) c.in-Guest.is c.requires.can.left))).guest

pub step_on_guest-requires-clause-own : goal.step_on_guest-requires-clause-own
step_on_guest-requires-clause-own g c =
    (asks_suits
    (guest_as (layout_of c.args.layout.now) c.args.step c.args.cpu.now (c.args.k - 2) c.args.k c.in-Guest.part
    (let less =
    (guest_past
    (layout_of c.args.layout.now) c.args.cpu.now.id c.args.cpu.now c.args.k c.args.slot c.in-Guest.part
    c.in-Guest.is c.requires.can.left) in
    omega (arith, less))
    (guest_used (uses_of (cpu_of c.args.cpu.now) c.args.step) c.args.k
    (guest_past
    (layout_of c.args.layout.now) c.args.cpu.now.id c.args.cpu.now c.args.k c.args.slot
    c.in-Guest.part c.in-Guest.is c.requires.can.left) c.requires.can.uses)
    (subst
    (λ (x : Slot g.row.A.Denot). ∥ IsLeft
    (layout_of c.args.layout.now) c.args.cpu.now.id c.args.cpu.now
    (only_at c.args.k x) ∥₁) c.in-Guest.is c.requires.can.left))).cpu

pub step_on_guest-requires-clause-reached : goal.step_on_guest-requires-clause-reached
step_on_guest-requires-clause-reached g c =
    asks_reached
    (guest_as (layout_of c.args.layout.now) c.args.step c.args.cpu.now (c.args.k - 2) c.args.k c.in-Guest.part
    (let less =
    (guest_past
    (layout_of c.args.layout.now) c.args.cpu.now.id c.args.cpu.now c.args.k c.args.slot c.in-Guest.part
    c.in-Guest.is c.requires.can.left) in
    omega (arith, less))
    (guest_used (uses_of (cpu_of c.args.cpu.now) c.args.step) c.args.k
    (guest_past
    (layout_of c.args.layout.now) c.args.cpu.now.id c.args.cpu.now c.args.k c.args.slot
    c.in-Guest.part c.in-Guest.is c.requires.can.left) c.requires.can.uses)
    (subst
    (λ (x : Slot g.row.A.Denot). ∥ IsLeft
    (layout_of c.args.layout.now) c.args.cpu.now.id c.args.cpu.now
    (only_at c.args.k x) ∥₁) c.in-Guest.is c.requires.can.left))
    (Some (c.args.k - 2))
    (guest (cpu_of c.args.cpu.now) c.args.step (c.args.k - 2)
    (guest_used (uses_of (cpu_of c.args.cpu.now) c.args.step) c.args.k
    (guest_past
    (layout_of c.args.layout.now) c.args.cpu.now.id c.args.cpu.now c.args.k c.args.slot
    c.in-Guest.part c.in-Guest.is c.requires.can.left) c.requires.can.uses)).slot

pub returns-in-Guest-clause-does : goal.returns-in-Guest-clause-does
returns-in-Guest-clause-does g c =
    subst
    (λ (x : Slot g.row.A.Denot). Does (layout_of c.args.layout.now) c.unwrap-call-in-Guest.result
    (only_at c.args.k x) c.args.cpu.now
    (only_at c.args.k (GuestSlot c.step_on_guest.new.part)) c.step_on_guest.new.cpu)
    (sym c.in-Guest.is)
    (gives
    (guest_as (layout_of c.args.layout.now) c.args.step c.args.cpu.now
    (c.args.k - 2) c.args.k c.in-Guest.part
    (let less =
    (guest_past
    (layout_of c.args.layout.now) c.args.cpu.now.id c.args.cpu.now c.args.k c.args.slot
    c.in-Guest.part c.in-Guest.is c.requires.can.left) in
    omega (arith, less))
    (guest_used (uses_of (cpu_of c.args.cpu.now) c.args.step) c.args.k
    (guest_past
    (layout_of c.args.layout.now) c.args.cpu.now.id c.args.cpu.now c.args.k
    c.args.slot c.in-Guest.part c.in-Guest.is
    c.requires.can.left) c.requires.can.uses)
    (subst
    (λ (x : Slot g.row.A.Denot). ∥ IsLeft
    (layout_of c.args.layout.now) c.args.cpu.now.id c.args.cpu.now
    (only_at c.args.k x) ∥₁) c.in-Guest.is
    c.requires.can.left)) c.step_on_guest.result
    (lent_guest c.step_on_guest.new.part c.step_on_guest.new.cpu)
    (none_full (logs_in (lent_guest c.in-Guest.part c.args.cpu.now))
    (not_full c.args.cpu.now.log.room c.requires.can.own_room) refl refl
    (not_full c.in-Guest.part.log.room
    (subst (λ (x : Slot g.row.A.Denot). (log_of x).room ≢ 0) c.in-Guest.is
    (c.requires.can.rooms c.args.k c.args.slot
    (only_here c.args.k c.args.slot))))) c.step_on_guest.ensures.step
    c.unwrap-call-in-Guest.result c.unwrap-call-in-Guest.ensures
    (only_at c.args.k (GuestSlot c.step_on_guest.new.part))
    (record { vms = tt; shared = tt; guest = c.step_on_guest.ensures.suits; cpu = c.step_on_guest.ensures.own })
    (guest_only (guest_slot (cpu_of c.args.cpu.now) c.args.step) c.step_on_guest.new.cpu
    (c.args.k - 2) c.args.k c.step_on_guest.new.part
    (guest (cpu_of c.args.cpu.now) c.args.step (c.args.k - 2)
    (guest_used (uses_of (cpu_of c.args.cpu.now) c.args.step) c.args.k
    (guest_past
    (layout_of c.args.layout.now) c.args.cpu.now.id c.args.cpu.now c.args.k c.args.slot
    c.in-Guest.part c.in-Guest.is c.requires.can.left) c.requires.can.uses)).slot
    (let less =
    (guest_past
    (layout_of c.args.layout.now) c.args.cpu.now.id c.args.cpu.now c.args.k c.args.slot
    c.in-Guest.part c.in-Guest.is c.requires.can.left) in
    omega (arith, less))))

pub overflow_sub-k : goal.overflow_sub-k
overflow_sub-k g c =
    (guest_past
    (layout_of c.args.layout.now) c.args.cpu.now.id c.args.cpu.now c.args.k c.args.slot c.in-Guest.part
    c.in-Guest.is c.requires.can.left)

pub unwrap-call-requires : goal.unwrap-call-requires
unwrap-call-requires g c =
    some_made c.step_on_vms.result
    (stores
    (vms_as (layout_of c.args.layout.now) c.args.step c.args.cpu.now c.in-Vm.part
    (vms_used (uses_of (cpu_of c.args.cpu.now) c.args.step)
    (c.requires.can.uses
    ∙ ap (λ n. n ∷ [])
    (vms_at c.args.cpu.now.id c.args.cpu.now c.args.k c.requires.can.left c.in-Vm.is)))
    (vms_left c.args.cpu.now.id c.args.cpu.now c.args.k c.requires.can.left
    c.in-Vm.is)) c.step_on_vms.result
    (lent_vms {A = g.row.A.Denot} c.step_on_vms.new.vms c.step_on_vms.new.cpu)
    (none_full (logs_in (lent_vms {A = g.row.A.Denot} c.in-Vm.part c.args.cpu.now))
    (not_full c.args.cpu.now.log.room c.requires.can.own_room)
    (not_full c.in-Vm.part.log.room
    (subst (λ (x : Slot g.row.A.Denot). (log_of x).room ≢ 0) c.in-Vm.is
    (c.requires.can.rooms c.args.k c.args.slot (only_here c.args.k c.args.slot)))) refl refl)
    (vms_anywhere
    (layout_of c.args.layout.now) c.args.step c.in-Vm.part c.step_on_vms.new.vms c.args.cpu.now
    c.step_on_vms.new.cpu c.step_on_vms.result c.step_on_vms.ensures.step))

pub unwrap-call-requires-in-Shared : goal.unwrap-call-requires-in-Shared
unwrap-call-requires-in-Shared g c =
    some_made c.step_on_shared.result
    (stores
    (shared_as (layout_of c.args.layout.now) c.args.step c.args.cpu.now c.in-Shared.part
    (shared_used (uses_of (cpu_of c.args.cpu.now) c.args.step)
    (c.requires.can.uses
    ∙ ap (λ n. n ∷ [])
    (shared_at c.args.cpu.now.id c.args.cpu.now c.args.k c.requires.can.left c.in-Shared.is)))
    (shared_left c.args.cpu.now.id c.args.cpu.now c.args.k c.requires.can.left
    c.in-Shared.is)) c.step_on_shared.result
    (lent_shared c.step_on_shared.new.shared c.step_on_shared.new.cpu)
    (none_full (logs_in (lent_shared c.in-Shared.part c.args.cpu.now))
    (not_full c.args.cpu.now.log.room c.requires.can.own_room) refl
    (not_full c.in-Shared.part.log.room
    (subst (λ (x : Slot g.row.A.Denot). (log_of x).room ≢ 0) c.in-Shared.is
    (c.requires.can.rooms c.args.k c.args.slot
    (only_here c.args.k c.args.slot)))) refl) c.step_on_shared.ensures.step)

pub unwrap-call-requires-in-Guest : goal.unwrap-call-requires-in-Guest
unwrap-call-requires-in-Guest g c =
    some_made c.step_on_guest.result
    (stores
    (guest_as (layout_of c.args.layout.now) c.args.step c.args.cpu.now (c.args.k - 2) c.args.k c.in-Guest.part
    (let less =
    (guest_past
    (layout_of c.args.layout.now) c.args.cpu.now.id c.args.cpu.now c.args.k c.args.slot
    c.in-Guest.part c.in-Guest.is c.requires.can.left) in
    omega (arith, less))
    (guest_used (uses_of (cpu_of c.args.cpu.now) c.args.step) c.args.k
    (guest_past
    (layout_of c.args.layout.now) c.args.cpu.now.id c.args.cpu.now c.args.k c.args.slot
    c.in-Guest.part c.in-Guest.is c.requires.can.left) c.requires.can.uses)
    (subst
    (λ (x : Slot g.row.A.Denot). ∥ IsLeft
    (layout_of c.args.layout.now) c.args.cpu.now.id c.args.cpu.now
    (only_at c.args.k x) ∥₁) c.in-Guest.is c.requires.can.left)) c.step_on_guest.result
    (lent_guest c.step_on_guest.new.part c.step_on_guest.new.cpu)
    (none_full (logs_in (lent_guest c.in-Guest.part c.args.cpu.now))
    (not_full c.args.cpu.now.log.room c.requires.can.own_room) refl refl
    (not_full c.in-Guest.part.log.room
    (subst (λ (x : Slot g.row.A.Denot). (log_of x).room ≢ 0) c.in-Guest.is
    (c.requires.can.rooms c.args.k c.args.slot
    (only_here c.args.k c.args.slot))))) c.step_on_guest.ensures.step)
