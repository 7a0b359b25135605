use Rattle.std.proofs.Common.{◌≡◌, ◌+◌, ◌-◌}
use Rattle.page_state.specs.Trees.{frames_from}
use Rattle.page_state.specs.Tables.{all_given}
use Rattle.guest_component.proofs.hand.give_frames.Given as goal

abbrev pub invariant-loop-i : goal.invariant-loop-i
invariant-loop-i l = record {
  frames : l.pool.frames
      ≡ all_given (frames_from (l.frames.first.0 + l.i) (l.frames.count - l.i)) l.initial.pool.frames;
  room : l.pool.room ≡ l.initial.pool.room;
}
