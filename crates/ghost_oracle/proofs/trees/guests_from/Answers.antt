use Rattle.std.proofs.Common.{All, map, ap, sym, subst, ◌∙◌}
use Rattle.std.proofs.lemmas.List.{take_all}
use Rattle.std.proofs.lemmas.List.Elements.{All-nil}
use Rattle.part_types.specs.View.{guest_held}
use Rattle.ghost_spec.specs.States.{guest_in, AreKeptGuests}
use Rattle.ghost_spec.specs.Kept.{IsKeptGuest}
use Rattle.ghost_trees.specs.KeptTrees.{IsKeptTree}
use Rattle.ghost_oracle.specs.Low.{IsLowGuest}
use Rattle.ghost_oracle.proofs.Lists.{mapped_next, all_pushed}
use Rattle.std.specs.Prelude.{◌*◌, sum_by}
use Rattle.table_tree.specs.Reading.{count_of}
use Rattle.ghost_oracle.specs.Counted.{guest_tables}
use Rattle.ghost_oracle.specs.inner.Eights.{HasLooked}
use Rattle.ghost_oracle.proofs.Counting.{looked_both, looked_none, sum_next}
use Rattle.ghost_oracle.proofs.trees.guests_from.Goals as goal

pub loop-part-init : goal.loop-part-init
loop-part-init g c = record {
  same = ap (map guest_in) c.in_ok-guests.ensures.items;
  trees = subst (All (λ x. IsKeptTree x.tree)) (sym c.in_ok-guests.ensures.items) (All-nil (λ x. IsKeptTree x.tree));
  kept = λ low. subst (λ gs. AreKeptGuests gs) (sym c.in_ok-guests.ensures.items) (All-nil IsKeptGuest);
  reads = looked_none (count_of c.args.reads.now);
}

pub loop-part-preserved : goal.loop-part-preserved
loop-part-preserved g c = record {
  same =
      ap (map guest_in) c.in_ok-push.ensures.items
      ∙ mapped_next guest_held c.args.parts.now c.loop-part.part-index c.part-item.result c.loop-part-test.true
      c.part-item.is guest_in c.loop-part.guests.items c.in_ok-guest_from.field-0
      c.loop-part.invariant.same c.in_ok-guest_from.ensures.guest;
  trees =
      subst (All (λ x. IsKeptTree x.tree)) (sym c.in_ok-push.ensures.items)
      (all_pushed
      (λ x. IsKeptTree x.tree) c.loop-part.guests.items c.in_ok-guest_from.field-0 c.loop-part.invariant.trees
      c.in_ok-guest_from.ensures.tree);
  kept =
      λ low. subst (λ gs. AreKeptGuests gs) (sym c.in_ok-push.ensures.items)
      (all_pushed IsKeptGuest c.loop-part.guests.items c.in_ok-guest_from.field-0 (c.loop-part.invariant.kept low)
      (c.in_ok-guest_from.ensures.kept
      (subst (λ p. IsLowGuest (guest_held p)) (sym c.part-item.is)
      (low c.loop-part.part-index c.part-item.result c.loop-part-test.true))));
  reads =
      looked_both (count_of c.args.reads.now) (count_of c.loop-part.reads)
      (count_of c.guest_from.new.reads) _ _ _ c.loop-part.invariant.reads c.in_ok-guest_from.ensures.reads
      (sum_next guest_tables c.args.parts.now c.loop-part.part-index c.part-item.result c.loop-part-test.true
      c.part-item.is);
}

pub returns-clause-guests : goal.returns-clause-guests
returns-clause-guests g c =
    c.loop-part.invariant.same
    ∙ ap (map guest_held) (take_all c.loop-part.part-index c.args.parts.now c.loop-part-test.false)

pub returns-clause-reads : goal.returns-clause-reads
returns-clause-reads g c =
    subst (λ ps. HasLooked (count_of c.args.reads.now) (512 * sum_by guest_tables ps) (count_of c.loop-part.reads))
    (take_all c.loop-part.part-index c.args.parts.now c.loop-part-test.false) c.loop-part.invariant.reads
