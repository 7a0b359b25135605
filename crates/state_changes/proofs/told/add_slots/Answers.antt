use Rattle.std.proofs.Common.{◌≡◌, ◌<◌, get_or, map, subst, arith}
use Rattle.ghost_spec.specs.States.{slot_in}
use Rattle.reference_model.specs.model.State.{Slot, no_slot}
use Rattle.state_changes.specs.Changed.{ReportsSlot}
use Rattle.state_changes.specs.Together.{Adds, Each}
use Rattle.state_changes.proofs.Read.{read_view}
use Rattle.state_changes.proofs.Together.{adds_more}
use Rattle.state_changes.proofs.told.add_slots.Goals as goal

pub loop-slot-preserved : goal.loop-slot-preserved
loop-slot-preserved c =
    let less : c.loop-slot.slot < 64 = omega (arith, c.loop-slot-test.true) in
    let was =
    read_view slot_in c.args.before.now.items c.loop-slot.slot c.index.result.now (no_slot 1) c.index.ensures
    (omega (arith, less, c.requires.count)) in
    let is =
    read_view slot_in c.args.after.now.items c.loop-slot.slot c.index-in-loop-slot.result.now
    (no_slot 1) c.index-in-loop-slot.ensures (omega (arith, less, c.requires.as_many)) in
    let old = c.loop-slot.text.items in
    let new = c.add_slot.new.text.items in
    let next =
    subst
    (λ (x : Slot). Adds
    (ReportsSlot x
    (get_or (map slot_in c.args.after.now.items) c.loop-slot.slot (no_slot 1)) c.loop-slot.slot) old
    new) was
    (subst
    (λ (y : Slot). Adds (ReportsSlot (slot_in c.index.result.now) y c.loop-slot.slot) old new) is
    c.in_ok-add_slot.ensures) in
    record {
      within = omega (arith, c.loop-slot-test.true);
      told =
          adds_more
          (λ v. ReportsSlot (get_or (map slot_in c.args.before.now.items) v (no_slot 1))
          (get_or (map slot_in c.args.after.now.items) v (no_slot 1)) v) c.loop-slot.slot c.args.text.now.items
          c.loop-slot.text.items c.add_slot.new.text.items c.loop-slot.invariant.told next;
    }

pub returns : goal.returns
returns c =
    let end : c.loop-slot.slot ≡ 64 = omega (arith, c.loop-slot.invariant.within, c.loop-slot-test.false) in
    subst
    (λ n. Adds
    (Each n
    (λ v. ReportsSlot (get_or (map slot_in c.args.before.now.items) v (no_slot 1))
    (get_or (map slot_in c.args.after.now.items) v (no_slot 1)) v)) c.args.text.now.items
    c.loop-slot.text.items) end c.loop-slot.invariant.told
