use Rattle.std.proofs.Common.{sym, subst, ◌∙◌, arith}
use Rattle.std.proofs.lemmas.Result.{IfOk-from_err}
use Rattle.page_state.proofs.Common.{same2}
use Rattle.page_state.specs.LayoutView.{layout_of}
use Rattle.ghost_spec.specs.Kept.{AreLowFrames}
use Rattle.ghost_spec.specs.States.{contents_in, guest_in}
use Rattle.free_judge.specs.PoolByRows.{guest_of, is_pool_frame, pool_frames}
use Rattle.free_judge.proofs.PoolStates.{low-pool}
use Rattle.free_judge.proofs.asked.by_rows.Goals as goal

pub with_frames-requires-clause-low : goal.with_frames-requires-clause-low
unfolding pool_frames
with_frames-requires-clause-low c =
    subst AreLowFrames (sym (c.as_slice.ensures.value ∙ c.in_ok-frames.ensures))
    (low-pool
    (is_pool_frame (layout_of c.args.lists.now.layout) (contents_in c.args.lists.now) c.args.slot) 67108864
    (omega arith))

pub returns-clause-guest : goal.returns-clause-guest
returns-clause-guest c =
    c.in_ok-made.ensures.guest
    ∙ same2 (λ d fs. guest_of d c.args.named c.args.is_held fs (guest_in c.args.guest.now))
    c.depth_of-depth.ensures.value (c.as_slice.ensures.value ∙ c.in_ok-frames.ensures)

pub returns-in_err-made-clause-guest : goal.returns-in_err-made-clause-guest
returns-in_err-made-clause-guest c = IfOk-from_err _ _ c.from_residual-in_err-made.ensures.0

pub returns-in_err-made-clause-kept : goal.returns-in_err-made-clause-kept
returns-in_err-made-clause-kept c = IfOk-from_err _ _ c.from_residual-in_err-made.ensures.0
