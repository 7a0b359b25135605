use Rattle.std.proofs.Common.{◌≢◌, ◌+◌, Some, refl, sym, subst, arith}
use Rattle.page_state.specs.LayoutView.{layout_of}
use Rattle.part_types.specs.Lent.{lent_both, logs_in}
use Rattle.part_types.specs.View.{cpu_of}
use Rattle.reference_model.specs.model.Rules.{guest_slot}
use Rattle.hypercalls.specs.Uses.{uses_of}
use Rattle.hypercalls.proofs.Stepping.{none_full}
use Rattle.hypercalls.proofs.Using.{both}
use Rattle.part_table.specs.declared.slot.Slot.{Slot}
use Rattle.part_table.specs.declared.slot.Slot.TheVariants.{Shared as SharedSlot, Guest as GuestSlot}
use Rattle.part_table.specs.Does.{Does, IsLeft, both_at}
use Rattle.part_table.specs.Parts.{log_of}
use Rattle.part_table.proofs.Holding.{at_first, at_second}
use Rattle.part_table.proofs.SteppingByNumber.{both_is, both_used}
use Rattle.part_table.proofs.SteppingOn.{asks_reached, asks_suits, both_as, called, gives, is_guest, is_shared, not_full, some_made, stores}
use Rattle.part_table.proofs.step.both.Goals as goal

pub unreachable-requires : goal.unreachable-requires
unreachable-requires g c =
    is_shared
    (layout_of c.args.layout.now) c.args.cpu.now.id c.args.cpu.now c.args.v c.args.shared c.args.guest
    c.requires.can.left c.in_default.not-Shared

pub unreachable-requires-in_default-guest : goal.unreachable-requires-in_default-guest
unreachable-requires-in_default-guest g c =
    is_guest
    (layout_of c.args.layout.now) c.args.cpu.now.id c.args.cpu.now c.args.v c.args.shared c.args.guest
    c.requires.can.left c.in_default-guest.not-Guest

pub step_on_both-requires-clause-suits : goal.step_on_both-requires-clause-suits
step_on_both-requires-clause-suits g c =
    asks_suits
    (both_as (layout_of c.args.layout.now) c.args.step c.args.cpu.now c.args.v c.in-Shared.s c.in-Guest.g
    (both_used (uses_of (cpu_of c.args.cpu.now) c.args.step) c.args.v c.requires.can.uses)
    (subst
    (λ (z : Slot g.row.A.Denot × Slot g.row.A.Denot). ∥ IsLeft
    (layout_of c.args.layout.now) c.args.cpu.now.id c.args.cpu.now
    (both_at (c.args.v + 2) z.1 1 z.0) ∥₁)
    (λ i. (c.in-Shared.is i, c.in-Guest.is i)) c.requires.can.left))

pub step_on_both-requires-clause-uses : goal.step_on_both-requires-clause-uses
step_on_both-requires-clause-uses g c =
    (both_used (uses_of (cpu_of c.args.cpu.now) c.args.step) c.args.v c.requires.can.uses)

pub step_on_both-requires-clause-reached : goal.step_on_both-requires-clause-reached
step_on_both-requires-clause-reached g c =
    asks_reached
    (both_as (layout_of c.args.layout.now) c.args.step c.args.cpu.now c.args.v c.in-Shared.s c.in-Guest.g
    (both_used (uses_of (cpu_of c.args.cpu.now) c.args.step) c.args.v c.requires.can.uses)
    (subst
    (λ (z : Slot g.row.A.Denot × Slot g.row.A.Denot). ∥ IsLeft
    (layout_of c.args.layout.now) c.args.cpu.now.id c.args.cpu.now
    (both_at (c.args.v + 2) z.1 1 z.0) ∥₁)
    (λ i. (c.in-Shared.is i, c.in-Guest.is i)) c.requires.can.left))
    (Some c.args.v)
    (both (cpu_of c.args.cpu.now) c.args.step c.args.v
    (both_used (uses_of (cpu_of c.args.cpu.now) c.args.step) c.args.v c.requires.can.uses)).slot

pub unwrap-call-requires : goal.unwrap-call-requires
unwrap-call-requires g c =
    some_made c.step_on_both.result
    (stores
    (both_as (layout_of c.args.layout.now) c.args.step c.args.cpu.now c.args.v c.in-Shared.s c.in-Guest.g
    (both_used (uses_of (cpu_of c.args.cpu.now) c.args.step) c.args.v c.requires.can.uses)
    (subst
    (λ (z : Slot g.row.A.Denot × Slot g.row.A.Denot). ∥ IsLeft
    (layout_of c.args.layout.now) c.args.cpu.now.id c.args.cpu.now
    (both_at (c.args.v + 2) z.1 1 z.0) ∥₁)
    (λ i. (c.in-Shared.is i, c.in-Guest.is i)) c.requires.can.left)) c.step_on_both.result
    (lent_both c.step_on_both.new.shared c.step_on_both.new.part c.step_on_both.new.cpu)
    (none_full (logs_in (lent_both c.in-Shared.s c.in-Guest.g c.args.cpu.now))
    (not_full c.args.cpu.now.log.room c.requires.can.own_room) refl
    (not_full c.in-Shared.s.log.room
    (subst (λ (x : Slot g.row.A.Denot). (log_of x).room ≢ 0) c.in-Shared.is
    (c.requires.can.rooms 1 c.args.shared
    (at_second (c.args.v + 2) 1 c.args.guest c.args.shared (λ e. omega arith)))))
    (not_full c.in-Guest.g.log.room
    (subst (λ (x : Slot g.row.A.Denot). (log_of x).room ≢ 0) c.in-Guest.is
    (c.requires.can.rooms (c.args.v + 2) c.args.guest
    (at_first (c.args.v + 2) 1 c.args.guest c.args.shared))))) c.step_on_both.ensures.step)

pub returns-clause-call : goal.returns-clause-call
returns-clause-call g c =
    called
    (both_as (layout_of c.args.layout.now) c.args.step c.args.cpu.now c.args.v c.in-Shared.s c.in-Guest.g
    (both_used (uses_of (cpu_of c.args.cpu.now) c.args.step) c.args.v c.requires.can.uses)
    (subst
    (λ (z : Slot g.row.A.Denot × Slot g.row.A.Denot). ∥ IsLeft
    (layout_of c.args.layout.now) c.args.cpu.now.id c.args.cpu.now
    (both_at (c.args.v + 2) z.1 1 z.0) ∥₁)
    (λ i. (c.in-Shared.is i, c.in-Guest.is i)) c.requires.can.left)) c.step_on_both.result
    (lent_both c.step_on_both.new.shared c.step_on_both.new.part c.step_on_both.new.cpu)
    (none_full (logs_in (lent_both c.in-Shared.s c.in-Guest.g c.args.cpu.now))
    (not_full c.args.cpu.now.log.room c.requires.can.own_room) refl
    (not_full c.in-Shared.s.log.room
    (subst (λ (x : Slot g.row.A.Denot). (log_of x).room ≢ 0) c.in-Shared.is
    (c.requires.can.rooms 1 c.args.shared
    (at_second (c.args.v + 2) 1 c.args.guest c.args.shared (λ e. omega arith)))))
    (not_full c.in-Guest.g.log.room
    (subst (λ (x : Slot g.row.A.Denot). (log_of x).room ≢ 0) c.in-Guest.is
    (c.requires.can.rooms (c.args.v + 2) c.args.guest
    (at_first (c.args.v + 2) 1 c.args.guest c.args.shared))))) c.step_on_both.ensures.step
    c.unwrap-call.result c.unwrap-call.ensures

pub returns-clause-does : goal.returns-clause-does
returns-clause-does g c =
    subst
    (λ (z : Slot g.row.A.Denot × Slot g.row.A.Denot). Does (layout_of c.args.layout.now) c.unwrap-call.result
    (both_at (c.args.v + 2) z.1 1 z.0) c.args.cpu.now
    (both_at (c.args.v + 2) (GuestSlot c.step_on_both.new.part) 1
    (SharedSlot c.step_on_both.new.shared)) c.step_on_both.new.cpu)
    (λ i. (sym c.in-Shared.is i, sym c.in-Guest.is i))
    (gives
    (both_as (layout_of c.args.layout.now) c.args.step c.args.cpu.now c.args.v c.in-Shared.s c.in-Guest.g
    (both_used (uses_of (cpu_of c.args.cpu.now) c.args.step) c.args.v c.requires.can.uses)
    (subst
    (λ (z : Slot g.row.A.Denot × Slot g.row.A.Denot). ∥ IsLeft
    (layout_of c.args.layout.now) c.args.cpu.now.id c.args.cpu.now
    (both_at (c.args.v + 2) z.1 1 z.0) ∥₁)
    (λ i. (c.in-Shared.is i, c.in-Guest.is i)) c.requires.can.left)) c.step_on_both.result
    (lent_both c.step_on_both.new.shared c.step_on_both.new.part c.step_on_both.new.cpu)
    (none_full (logs_in (lent_both c.in-Shared.s c.in-Guest.g c.args.cpu.now))
    (not_full c.args.cpu.now.log.room c.requires.can.own_room) refl
    (not_full c.in-Shared.s.log.room
    (subst (λ (x : Slot g.row.A.Denot). (log_of x).room ≢ 0) c.in-Shared.is
    (c.requires.can.rooms 1 c.args.shared
    (at_second (c.args.v + 2) 1 c.args.guest c.args.shared (λ e. omega arith)))))
    (not_full c.in-Guest.g.log.room
    (subst (λ (x : Slot g.row.A.Denot). (log_of x).room ≢ 0) c.in-Guest.is
    (c.requires.can.rooms (c.args.v + 2) c.args.guest
    (at_first (c.args.v + 2) 1 c.args.guest c.args.shared))))) c.step_on_both.ensures.step
    c.unwrap-call.result c.unwrap-call.ensures
    (both_at (c.args.v + 2) (GuestSlot c.step_on_both.new.part) 1
    (SharedSlot c.step_on_both.new.shared)) c.step_on_both.ensures.suits
    (both_is
    (guest_slot (cpu_of c.args.cpu.now) c.args.step) c.step_on_both.new.cpu c.args.v
    c.step_on_both.new.shared c.step_on_both.new.part
    (both (cpu_of c.args.cpu.now) c.args.step c.args.v
    (both_used (uses_of (cpu_of c.args.cpu.now) c.args.step) c.args.v c.requires.can.uses)).slot))
