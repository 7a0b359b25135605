use Rattle.std.proofs.Common.{◌≡◌, ℕ, ◌+◌, sum_by, take, length, map, ◌∷◌, ◌++◌}
use Rattle.descriptor.specs.declared.Frame.{Frame}
use Rattle.table_tree.specs.Meaning.{slots_of, frame_of}
use Rattle.page_state.specs.Counts.{is_one}
use Rattle.table_tree.specs.Tables.{frame_times}
use Rattle.table_tree.specs.Slots.{slot_tables}
use Rattle.table_tree.proofs.Sums.{uses_before}
use Rattle.table_tree.proofs.AllFrames.{frames_before}
use Rattle.table_tree.proofs.look.+frames_in.Given as goal

abbrev pub decreases-frames_in : goal.decreases-frames_in
decreases-frames_in g l = l.depth

abbrev pub invariant-loop-i : goal.invariant-loop-i
invariant-loop-i g l = record {
  count : (f : ℕ)
      → frame_times f l.frames.items
      ≡ frame_times f l.fn.frames.items + is_one (frame_of l.table) f + uses_before l.depth f l.table l.i;
  frames : map (λ (f : Frame). f.0) l.frames.items
      ≡ map (λ (f : Frame). f.0) l.fn.frames.items ++ (frame_of l.table ∷ frames_before l.depth l.table l.i);
  len : length l.frames.items
      ≡ length l.fn.frames.items + 1 + sum_by (slot_tables l.depth) (take l.i (slots_of l.table));
}
