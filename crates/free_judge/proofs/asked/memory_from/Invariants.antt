use Rattle.std.proofs.Common.{◌≡◌, filter}
use Rattle.page_state.specs.Layouts.{is_memory}
use Rattle.page_state.specs.LayoutView.{layout_of}
use Rattle.page_state.specs.Trees.{frames_from}
use Rattle.free_judge.proofs.asked.memory_from.Given as goal

abbrev pub invariant-loop-i : goal.invariant-loop-i
invariant-loop-i l = l.frames.items ≡ filter (is_memory (layout_of l.layout)) (frames_from l.first l.i)
