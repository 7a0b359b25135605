use Rattle.std.proofs.Common.{arith, ap, sym, ◌∙◌, subst, length, ◌<◌, List, ℕ}
use Rattle.std.specs.Prelude.{All}
use Rattle.ghost_trees.specs.declared.tree.Table.{Table}
use Rattle.ghost_coarse.specs.Misfits.{AreInside}
use Rattle.ghost_spec.specs.declared.parts.GhostGuest.{GhostGuest}
use Rattle.ghost_legal.proofs.Found.{guest-of, guests-more, outside-guest}
use Rattle.ghost_legal.proofs.Steady.{all_taken}
use Rattle.ghost_legal.proofs.trees.first_guest_table.Goals as goal

pub returns-in-Some : goal.returns-in-Some
returns-in-Some c =
    let g = c.args.state.now in
    let e = c.as_slice-guests.ensures.value in
    let less : c.loop-slot.slot < length g.guests.items =
    omega (arith, c.loop-slot-test.true, c.requires.kept.guests_count) in (
      c.requires.parts,
      outside-guest g c.loop-slot.slot c.depth_of-depth.result c.index-guests-slot.result c.as_slice.result.now _
          (guest-of g c.as_slice-guests.result.now c.loop-slot.slot _ e c.index-guests-slot.is
          less) c.depth_of-depth.ensures.value
          (c.as_slice.ensures.value
          ∙ ap (λ (x : GhostGuest). x.tree.tables.items) (sym c.index-guests-slot.is)) c.in-Some.ensures,
    )

pub loop-slot-preserved : goal.loop-slot-preserved
loop-slot-preserved c =
    let g = c.args.state.now in
    guests-more
    (λ (x : GhostGuest). AreInside c.depth_of-depth.result x.tree.tables.items) g.guests.items
    c.as_slice-guests.result.now c.loop-slot.slot c.index-guests-slot.result c.as_slice-guests.ensures.value
    c.index-guests-slot.is
    (omega (arith, c.loop-slot-test.true, c.requires.kept.guests_count)) c.loop-slot.invariant
    (subst (λ (x : GhostGuest). AreInside c.depth_of-depth.result x.tree.tables.items) (sym c.index-guests-slot.is)
    (subst
    (λ (ts : List Table). AreInside c.depth_of-depth.result ts) c.as_slice.ensures.value c.in_default.ensures))

pub returns : goal.returns
returns c =
    let g = c.args.state.now in
    let all =
    all_taken
    (λ (x : GhostGuest). AreInside c.depth_of-depth.result x.tree.tables.items) g.guests.items c.loop-slot.slot
    (omega (arith, c.loop-slot-test.false, c.requires.kept.guests_count)) c.loop-slot.invariant in
    subst (λ (n : ℕ). All (λ x. AreInside n x.tree.tables.items) g.guests.items) c.depth_of-depth.ensures.value all
