use Rattle.std.proofs.Common.{◌≡◌}
use Rattle.page_state.specs.Trees.{frames_from}
use Rattle.ghost_spec.proofs.shared_at_boot.frames_from.Given as goal

abbrev pub invariant-loop-i : goal.invariant-loop-i
invariant-loop-i l = l.frames.items ≡ frames_from l.first l.i
