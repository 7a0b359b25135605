use Rattle.std.proofs.Common.{◌≡◌, ◌<◌, Some, arith, length, refl, slice_get, subst}
use Rattle.std.proofs.lemmas.Option.{slice_get_read}
use Rattle.std.specs.Prelude.{IsSome}
use Rattle.table_tree.specs.Said.{block_of}
use Rattle.ghost_oracle.proofs.PokedParts.{beside_kept, depth_here, depth_kept, seen_here, seen_others, seen_poked, word_within}
use Rattle.ghost_oracle.proofs.pokes.set_place.Goals as goal
use Rattle.ghost_oracle.proofs.pokes.set_place.Goals.{After-index_mut-2}
use Rattle.ghost_oracle.proofs.pokes.set_place.Given as Given

-- what the slot holds before it is poked
module _ (g : Given.Over) (c : After-index_mut-2 g) where
  within : c.args.slot < length c.args.guests.now.items
  within = word_within c.args.guests.now.items c.args.poked.now.items c.args.slot c.args.path.now c.requires.there

  guest_is : slice_get c.args.guests.now.items c.args.slot ≡ Some c.index_mut.result.now
  guest_is =
      slice_get_read c.args.guests.now.items _ c.args.slot c.index_mut.result.now refl within c.index_mut.ensures.value

  poked_is : slice_get c.args.poked.now.items c.args.slot ≡ Some c.index_mut-2.result.now
  poked_is =
      slice_get_read c.args.poked.now.items _ c.args.slot c.index_mut-2.result.now refl
      (let less = within in
      omega (
        arith,
        less,
        c.requires.slots,
        c.requires.places,
        c.args.guests.now.ok.0,
        c.args.poked.now.ok.0,
      )) c.index_mut-2.ensures.value

pub set_slot-requires : goal.set_slot-requires
set_slot-requires g c = record {
  there =
      subst (λ t. IsSome (t.words c.args.path.now))
      (seen_here c.args.guests.now.items c.args.poked.now.items c.args.slot c.index_mut.result.now
      c.index_mut-2.result.now
      (guest_is g c) (poked_is g c)) c.requires.there;
}

pub returns-clause-poked : goal.returns-clause-poked
returns-clause-poked g c = λ geometry h.
    let at = (goal.at.returns-clause-poked g c).After-index_mut-2 in
    seen_poked c.args.guests.now.items c.args.poked.now.items c.args.slot c.index_mut.result.now
    c.index_mut-2.result.now
    (guest_is g at) (poked_is g at) c.set_slot.new.part c.set_slot.new.held
    (block_of geometry c.args.path.now) c.args.path.now c.args.word
    (c.set_slot.ensures.poked geometry
    (depth_here c.args.guests.now.items c.args.poked.now.items c.args.slot c.index_mut.result.now
    c.index_mut-2.result.now
    (guest_is g at) (poked_is g at) geometry h))

pub returns-clause-others : goal.returns-clause-others
returns-clause-others g c =
    let at = (goal.at.returns-clause-others g c).After-index_mut-2 in
    seen_others c.args.guests.now.items c.args.poked.now.items c.args.slot c.index_mut.result.now
    c.index_mut-2.result.now
    (guest_is g at) (poked_is g at) c.set_slot.new.part c.set_slot.new.held

pub returns-clause-beside : goal.returns-clause-beside
returns-clause-beside g c =
    let at = (goal.at.returns-clause-beside g c).After-index_mut-2 in
    beside_kept c.args.guests.now.items c.args.poked.now.items c.args.slot c.index_mut.result.now
    c.index_mut-2.result.now
    (guest_is g at) (poked_is g at) c.set_slot.new.part c.set_slot.new.held c.set_slot.ensures.beside

pub returns-clause-depth : goal.returns-clause-depth
returns-clause-depth g c = λ geometry h.
    let at = (goal.at.returns-clause-depth g c).After-index_mut-2 in
    depth_kept c.args.guests.now.items c.args.poked.now.items c.args.slot c.index_mut.result.now
    c.index_mut-2.result.now
    (guest_is g at) (poked_is g at) c.set_slot.new.part c.set_slot.new.held geometry
    (c.set_slot.ensures.depth geometry
    (depth_here c.args.guests.now.items c.args.poked.now.items c.args.slot c.index_mut.result.now
    c.index_mut-2.result.now
    (guest_is g at) (poked_is g at) geometry h)) h

pub returns-clause-slots : goal.returns-clause-slots
returns-clause-slots g c = c.requires.slots

pub returns-clause-places : goal.returns-clause-places
returns-clause-places g c = c.requires.places

pub index_mut-requires : goal.index_mut-requires
index_mut-requires g c =
    let less =
    word_within c.args.guests.now.items c.args.poked.now.items c.args.slot c.args.path.now c.requires.there in
    omega (arith, less, c.args.guests.now.ok.0)

pub index_mut-requires-2 : goal.index_mut-requires-2
index_mut-requires-2 g c =
    let less =
    word_within c.args.guests.now.items c.args.poked.now.items c.args.slot c.args.path.now c.requires.there in
    omega (arith, less, c.requires.slots, c.requires.places, c.args.guests.now.ok.0)
