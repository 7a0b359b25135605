use Rattle.page_state.specs.Layouts.{is_memory}
use Rattle.page_state.specs.LayoutView.{layout_of}
use Rattle.std.proofs.Common.{◌++◌, ap, ◌∙◌}
use Rattle.std.specs.Prelude.{flat_map}
use Rattle.std.proofs.lemmas.List.{take_all}
use Rattle.free_judge.specs.inner.RunFrames.{run_frames}
use Rattle.free_judge.proofs.PoolFrames.{next-run}
use Rattle.free_judge.proofs.asked.all_frames.Goals as goal

pub loop-run-preserved : goal.loop-run-preserved
loop-run-preserved c =
    next-run (run_frames (is_memory (layout_of c.args.layout.now)) c.args.slot 67108864) c.args.runs.now
    c.loop-run.run-index _ c.loop-run.frames.items c.extend_from_slice.new.self.items
    c.in_ok-more.more.items c.loop-run-test.true c.loop-run.invariant c.in_ok-more.ensures
    (c.in_ok-extend_from_slice.ensures.items ∙ ap (λ ys. c.loop-run.frames.items ++ ys) c.as_slice.ensures.value)

pub returns : goal.returns
returns c =
    c.loop-run.invariant
    ∙ ap (flat_map (run_frames (is_memory (layout_of c.args.layout.now)) c.args.slot 67108864))
    (take_all c.loop-run.run-index c.args.runs.now c.loop-run-test.false)
