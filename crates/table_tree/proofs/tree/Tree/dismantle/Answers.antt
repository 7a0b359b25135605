use Rattle.std.proofs.Common.{ap, sym, ◌∙◌, ◌++◌, arith, length, map}
use Rattle.table_tree.specs.View.{uses, tables_of}
use Rattle.descriptor.specs.declared.Frame.{Frame}
use Rattle.page_state.specs.Geometries.{levels_below}
use Rattle.table_tree.specs.Tables.{all_frames_in}
use Rattle.table_tree.proofs.Sums.{count_none}
use Rattle.table_tree.proofs.AllFrames.{tree_frames, root_first}
use Rattle.table_tree.proofs.tree.Tree.dismantle.Goals as goal

pub returns-in-Ok-clause-uses : goal.returns-in-Ok-clause-uses
unfolding uses
returns-in-Ok-clause-uses g c f =
    let x = rw c.depth.ensures.value at (c.in-Ok.ensures.count f) in
    let y = count_none f c.new-frames.result.items c.new-frames.ensures.items in
    omega (arith, x, y)

pub returns-in-Ok-clause-len : goal.returns-in-Ok-clause-len
unfolding tables_of
returns-in-Ok-clause-len g c =
    let x = rw c.depth.ensures.value at c.in-Ok.ensures.len in
    let y = ap length c.new-frames.ensures.items in
    omega (arith, x, y)

pub returns-in-Ok-clause-frames : goal.returns-in-Ok-clause-frames
returns-in-Ok-clause-frames g c =
    let x = rw c.depth.ensures.value at c.in-Ok.ensures.frames in
    x
    ∙ ap
    (λ fs. map (λ (f : Frame). f.0) fs
    ++ all_frames_in (levels_below c.args.self.geometry) c.args.self.table) c.new-frames.ensures.items
    ∙ sym (tree_frames c.args.self)

pub returns-in-Ok-clause-root : goal.returns-in-Ok-clause-root
returns-in-Ok-clause-root g c = rw (returns-in-Ok-clause-frames g c) (root_first c.args.self)

pub returns-in-Ok-clause-distinct : goal.returns-in-Ok-clause-distinct
unfolding uses
returns-in-Ok-clause-distinct g c f = omega (arith, returns-in-Ok-clause-uses g c f, c.args.self.distinct f)
