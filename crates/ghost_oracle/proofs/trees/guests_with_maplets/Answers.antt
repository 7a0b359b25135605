use Rattle.std.proofs.Common.{map, ap, sym, subst, ◌∙◌, arith}
use Rattle.std.proofs.lemmas.List.{take_all}
use Rattle.reference_model.specs.model.State.{no_guest}
use Rattle.guest_component.specs.View.{runs_of}
use Rattle.part_types.specs.View.{guest_held}
use Rattle.ghost_spec.specs.Kept.{IsKeptGuest}
use Rattle.ghost_spec.specs.States.{guest_in, AreKeptGuests}
use Rattle.ghost_oracle.proofs.Founds.{held_at}
use Rattle.ghost_oracle.proofs.Lists.{mapped_next, all_pushed}
use Rattle.ghost_oracle.proofs.trees.guests_with_maplets.Goals as goal

pub guest_with_maplets-requires : goal.guest_with_maplets-requires
guest_with_maplets-requires g c =
    held_at guest_in no_guest guest_held c.args.found.now c.args.parts.now c.loop-v.v _ _ c.requires.found
    (omega (arith, c.loop-v-test.true, c.requires.count)) c.loop-v-test.true c.index-found-v.is c.index-parts-v.is
    ∙ ap guest_held c.index-parts-v.is

pub loop-v-preserved : goal.loop-v-preserved
loop-v-preserved g c = record {
  same =
      ap (map guest_in) c.in_ok-push.ensures.items
      ∙ mapped_next guest_held c.args.parts.now c.loop-v.v c.index-parts-v.result c.loop-v-test.true
      c.index-parts-v.is guest_in c.loop-v.guests.items c.in_ok-guest_with_maplets.field-0
      c.loop-v.invariant.same
      (c.in_ok-guest_with_maplets.ensures.guest ∙ ap guest_held (sym c.index-parts-v.is));
  kept =
      subst (λ gs. AreKeptGuests gs) (sym c.in_ok-push.ensures.items)
      (all_pushed IsKeptGuest c.loop-v.guests.items c.in_ok-guest_with_maplets.field-0 c.loop-v.invariant.kept
      (c.in_ok-guest_with_maplets.ensures.kept
      (c.requires.low c.loop-v.v c.index-parts-v.result c.loop-v-test.true)));
  runs =
      ap (map (λ x. x.tree.runs.items)) c.in_ok-push.ensures.items
      ∙ mapped_next
      (λ x. runs_of x.guest.body) c.args.parts.now c.loop-v.v c.index-parts-v.result c.loop-v-test.true
      c.index-parts-v.is
      (λ x. x.tree.runs.items) c.loop-v.guests.items c.in_ok-guest_with_maplets.field-0
      c.loop-v.invariant.runs
      (c.in_ok-guest_with_maplets.ensures.runs
      ∙ ap (λ x. runs_of x.guest.body) (sym c.index-parts-v.is));
}

pub returns-clause-guests : goal.returns-clause-guests
returns-clause-guests g c =
    c.loop-v.invariant.same ∙ ap (map guest_held) (take_all c.loop-v.v c.args.parts.now c.loop-v-test.false)

pub returns-clause-runs : goal.returns-clause-runs
returns-clause-runs g c =
    c.loop-v.invariant.runs
    ∙ ap (map (λ x. runs_of x.guest.body)) (take_all c.loop-v.v c.args.parts.now c.loop-v-test.false)
