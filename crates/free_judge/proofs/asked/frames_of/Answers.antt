use Rattle.std.proofs.Common.{ap, subst, ◌∙◌}
use Rattle.std.specs.Prelude.{flat_map}
use Rattle.page_state.specs.Layouts.{is_memory}
use Rattle.page_state.specs.LayoutView.{layout_of}
use Rattle.page_state.specs.Rows.{advance_row}
use Rattle.run_list.specs.Runs.{IsCoarsest}
use Rattle.free_judge.specs.inner.RunFrames.{run_frames}
use Rattle.free_judge.specs.PoolByRows.{pool_frames}
use Rattle.free_judge.proofs.PoolFrames.{all-frames}
use Rattle.free_judge.proofs.asked.frames_of.Goals as goal

pub returns : goal.returns
unfolding pool_frames
returns c =
    let test = is_memory (layout_of c.args.lists.now.layout) in
    c.in_ok-frames.ensures
    ∙ ap (flat_map (run_frames test c.args.slot 67108864)) c.runs-runs.ensures.runs
    ∙ all-frames test c.args.slot 67108864 c.args.lists.now.shared.rows.runs c.runs-runs.ensures.coarsest
