use Rattle.std.proofs.Common.{arith}
use Rattle.reference_model.specs.model.State.{no_guest}
use Rattle.ghost_spec.specs.States.{guest_in}
use Rattle.ghost_spec.specs.Used.{guests_in}
use Rattle.ghost_judge.specs.PartDifferences.{without_map}
use Rattle.ghost_judge.proofs.Judged.{below_next, place_told}
use Rattle.ghost_judge.proofs.judge.guest_apart.Goals as goal

pub loop-v-preserved : goal.loop-v-preserved
loop-v-preserved c =
    below_next (λ u. without_map (guests_in c.args.post.now u))
    (λ u. without_map (guests_in c.args.spec.now u)) c.loop-v.v c.loop-v.invariant
    (place_told guest_in no_guest without_map c.args.post.now c.args.spec.now c.loop-v.v c.index-post-v.result
    c.index-spec-v.result
    (omega (arith, c.loop-v-test.true, c.requires.post))
    (omega (arith, c.loop-v-test.true, c.requires.spec)) c.index-post-v.is c.index-spec-v.is
    (c.is_same_guest.ensures.0 c.if-not-is_same_guest.false))
