use Rattle.std.proofs.Common.{◌≡◌, take}
use Rattle.std.specs.Prelude.{flat_map}
use Rattle.page_state.specs.Layouts.{is_memory}
use Rattle.page_state.specs.LayoutView.{layout_of}
use Rattle.free_judge.specs.inner.RunFrames.{run_frames}
use Rattle.free_judge.proofs.asked.all_frames.Given as goal

abbrev pub invariant-loop-run : goal.invariant-loop-run
invariant-loop-run l =
    l.frames.items ≡ flat_map (run_frames (is_memory (layout_of l.layout)) l.slot 67108864) (take l.run-index l.runs)
