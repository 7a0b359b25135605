use Rattle.std.proofs.Common.{◌≡◌, ◌<◌, get_or, map, subst, arith}
use Rattle.ghost_spec.specs.States.{guest_in}
use Rattle.reference_model.specs.model.State.{Guest, no_guest}
use Rattle.state_changes.specs.Changed.{ReportsGuest}
use Rattle.state_changes.specs.Together.{Adds, Each}
use Rattle.state_changes.proofs.Read.{read_view}
use Rattle.state_changes.proofs.Together.{adds_more}
use Rattle.state_changes.proofs.told.add_guests.Goals as goal

pub loop-slot-preserved : goal.loop-slot-preserved
loop-slot-preserved c =
    let less : c.loop-slot.slot < 64 = omega (arith, c.loop-slot-test.true) in
    let was =
    read_view guest_in c.args.before.now.items c.loop-slot.slot c.index.result.now no_guest c.index.ensures
    (omega (arith, less, c.requires.count)) in
    let is =
    read_view guest_in c.args.after.now.items c.loop-slot.slot c.index-in-loop-slot.result.now no_guest
    c.index-in-loop-slot.ensures
    (omega (arith, less, c.requires.as_many)) in
    let old = c.loop-slot.text.items in
    let new = c.add_guest.new.text.items in
    let next =
    subst
    (λ (x : Guest). Adds
    (ReportsGuest x
    (get_or (map guest_in c.args.after.now.items) c.loop-slot.slot no_guest) c.loop-slot.slot) old new) was
    (subst
    (λ (y : Guest). Adds (ReportsGuest (guest_in c.index.result.now) y c.loop-slot.slot) old new) is
    c.in_ok-add_guest.ensures) in
    record {
      within = omega (arith, c.loop-slot-test.true);
      told =
          adds_more
          (λ v. ReportsGuest (get_or (map guest_in c.args.before.now.items) v no_guest)
          (get_or (map guest_in c.args.after.now.items) v no_guest) v) c.loop-slot.slot c.args.text.now.items
          c.loop-slot.text.items c.add_guest.new.text.items c.loop-slot.invariant.told next;
    }

pub returns : goal.returns
returns c =
    let end : c.loop-slot.slot ≡ 64 = omega (arith, c.loop-slot.invariant.within, c.loop-slot-test.false) in
    subst
    (λ n. Adds
    (Each n
    (λ v. ReportsGuest (get_or (map guest_in c.args.before.now.items) v no_guest)
    (get_or (map guest_in c.args.after.now.items) v no_guest) v)) c.args.text.now.items
    c.loop-slot.text.items) end c.loop-slot.invariant.told
