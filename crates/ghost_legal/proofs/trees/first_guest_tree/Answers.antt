use Rattle.std.proofs.Common.{arith, sym, subst, length, ◌<◌, ℕ}
use Rattle.std.specs.Prelude.{All}
use Rattle.coarse_trees.specs.Coarsest.{IsCoarsest}
use Rattle.ghost_trees.specs.Trees.{tree_in_lists}
use Rattle.ghost_coarse.specs.Misfits.{IsMisfit}
use Rattle.ghost_coarse.proofs.Along.{told-none}
use Rattle.ghost_spec.specs.declared.parts.GhostGuest.{GhostGuest}
use Rattle.ghost_legal.proofs.Found.{guest-of, guests-more, misfit-guest, told-some}
use Rattle.ghost_legal.proofs.Steady.{all_taken}
use Rattle.ghost_legal.proofs.trees.first_guest_tree.Goals as goal

pub returns-in-Some : goal.returns-in-Some
returns-in-Some c =
    let g = c.args.state.now in
    let e = c.as_slice-guests.ensures.value in
    let less : c.loop-slot.slot < length g.guests.items =
    omega (arith, c.loop-slot-test.true, c.requires.kept.guests_count) in (
      c.requires.pages,
      c.requires.frames,
      misfit-guest g c.loop-slot.slot c.depth_of-depth.result c.index-guests-slot.result c.in-Some.misfit
          (guest-of g c.as_slice-guests.result.now c.loop-slot.slot _ e c.index-guests-slot.is
          less) c.depth_of-depth.ensures.value
          (subst (λ (x : GhostGuest). IsMisfit c.depth_of-depth.result (tree_in_lists x.tree) c.in-Some.misfit)
          (sym c.index-guests-slot.is)
          (told-some _ _ c.in_ok-misfit.field-0 c.in-Some.misfit c.in-Some.is c.in_ok-misfit.ensures)),
    )

pub loop-slot-preserved : goal.loop-slot-preserved
loop-slot-preserved c =
    let g = c.args.state.now in
    guests-more
    (λ (x : GhostGuest). IsCoarsest c.depth_of-depth.result (tree_in_lists x.tree)) g.guests.items
    c.as_slice-guests.result.now c.loop-slot.slot c.index-guests-slot.result c.as_slice-guests.ensures.value
    c.index-guests-slot.is
    (omega (arith, c.loop-slot-test.true, c.requires.kept.guests_count)) c.loop-slot.invariant
    (subst (λ (x : GhostGuest). IsCoarsest c.depth_of-depth.result (tree_in_lists x.tree)) (sym c.index-guests-slot.is)
    (told-none _ _ c.in_ok-misfit.field-0 c.in_default.is c.in_ok-misfit.ensures))

pub returns : goal.returns
returns c =
    let g = c.args.state.now in
    let all =
    all_taken
    (λ (x : GhostGuest). IsCoarsest c.depth_of-depth.result (tree_in_lists x.tree)) g.guests.items
    c.loop-slot.slot
    (omega (arith, c.loop-slot-test.false, c.requires.kept.guests_count)) c.loop-slot.invariant in
    subst (λ (n : ℕ). All (λ x. IsCoarsest n (tree_in_lists x.tree)) g.guests.items) c.depth_of-depth.ensures.value all
