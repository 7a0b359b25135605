use Rattle.std.proofs.Common.{◌≡◌, ◌<◌, get_or, map, subst, arith}
use Rattle.ghost_spec.specs.States.{guest_in}
use Rattle.reference_model.specs.model.State.{Guest, no_guest}
use Rattle.state_changes.specs.Changed.{ReportsEntries, guest_name}
use Rattle.state_changes.specs.Together.{Adds, Each}
use Rattle.state_changes.proofs.Read.{read_view}
use Rattle.state_changes.proofs.Together.{adds_more}
use Rattle.state_changes.proofs.told.add_guest_maps.Goals as goal

pub loop-slot-preserved : goal.loop-slot-preserved
loop-slot-preserved c =
    let less : c.loop-slot.slot < 64 = omega (arith, c.loop-slot-test.true) in
    let was =
    read_view guest_in c.args.before.now.items c.loop-slot.slot c.index.result.now no_guest c.index.ensures
    (omega (arith, less, c.requires.count)) in
    let is =
    read_view guest_in c.args.after.now.items c.loop-slot.slot c.index-in-loop-slot.result.now no_guest
    c.index-in-loop-slot.ensures
    (omega (arith, less, c.requires.as_many)) in
    let old = c.loop-slot.text.items in
    let new = c.add_entries.new.text.items in
    let next =
    subst
    (λ (x : Guest). Adds
    (ReportsEntries (guest_name c.loop-slot.slot) x.tree.map
    (get_or (map guest_in c.args.after.now.items) c.loop-slot.slot no_guest).tree.map) old new) was
    (subst
    (λ (y : Guest). Adds
    (ReportsEntries (guest_name c.loop-slot.slot) (guest_in c.index.result.now).tree.map y.tree.map) old new) is
    c.in_ok-add_entries.ensures) in
    record {
      within = omega (arith, c.loop-slot-test.true);
      told =
          adds_more
          (λ v. ReportsEntries (guest_name v) (get_or (map guest_in c.args.before.now.items) v no_guest).tree.map
          (get_or (map guest_in c.args.after.now.items) v no_guest).tree.map) c.loop-slot.slot
          c.args.text.now.items c.loop-slot.text.items c.add_entries.new.text.items
          c.loop-slot.invariant.told next;
    }

pub returns : goal.returns
returns c =
    let end : c.loop-slot.slot ≡ 64 = omega (arith, c.loop-slot.invariant.within, c.loop-slot-test.false) in
    subst
    (λ n. Adds
    (Each n
    (λ v. ReportsEntries (guest_name v) (get_or (map guest_in c.args.before.now.items) v no_guest).tree.map
    (get_or (map guest_in c.args.after.now.items) v no_guest).tree.map)) c.args.text.now.items
    c.loop-slot.text.items) end c.loop-slot.invariant.told
