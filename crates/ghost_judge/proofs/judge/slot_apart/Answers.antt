use Rattle.std.proofs.Common.{arith}
use Rattle.reference_model.specs.model.State.{no_slot}
use Rattle.ghost_spec.specs.States.{slot_in}
use Rattle.ghost_spec.specs.Used.{vms_in}
use Rattle.ghost_judge.proofs.Judged.{below_next, place_told}
use Rattle.ghost_judge.proofs.judge.slot_apart.Goals as goal

pub loop-v-preserved : goal.loop-v-preserved
loop-v-preserved c =
    below_next (vms_in c.args.post.now).slot (vms_in c.args.spec.now).slot c.loop-v.v c.loop-v.invariant
    (place_told slot_in (no_slot 1)
    (λ s. s) c.args.post.now c.args.spec.now c.loop-v.v c.index-post-v.result c.index-spec-v.result
    (omega (arith, c.loop-v-test.true, c.requires.post))
    (omega (arith, c.loop-v-test.true, c.requires.spec)) c.index-post-v.is c.index-spec-v.is
    (c.is_same_slot.ensures.0 c.if-not-is_same_slot.false))
