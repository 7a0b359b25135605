use Rattle.std.proofs.Common.{◌≡◌, ◌≤◌, [], ◌∷◌, arith, ap, sym, ◌∙◌, ◌++◌, map, length, length-append}
use Rattle.descriptor.specs.declared.Frame.{Frame}
use Rattle.page_state.specs.Counts.{is_one}
use Rattle.table_tree.specs.Meaning.{frame_of}
use Rattle.table_tree.proofs.Slots.{shaped_wide, shaped_slot, slot_child_is}
use Rattle.table_tree.proofs.Sums.{tables_zero, uses_zero, tables_more_word, tables_more_child, tables_all, uses_more_word, uses_more_child, uses_all, uses_start, count_push}
use Rattle.table_tree.proofs.AllFrames.{frames_start, frames_last, frames_more_word, frames_more_child, frames_all, pushed, joined_on}
use Rattle.table_tree.proofs.look.+frames_in.Goals as goal
use Rattle.table_tree.proofs.look.+frames_in.Goals.{in-Child+in_ok-frames_in, in_default}

pub returns-then-depth-eq0-clause-count : goal.returns-then-depth-eq0-clause-count
returns-then-depth-eq0-clause-count g t c f =
    let x = count_push f c.args.frames.now.items c.push.new.self.items c.frame.result c.in_ok-push.ensures.items in
    let y = uses_zero c.args.depth c.args.table.now f c.if-depth-eq0.true in
    let z : is_one c.frame.result.0 f ≡ is_one (frame_of c.args.table.now) f = ap (λ n. is_one n f) c.frame.ensures in
    omega (arith, x, y, z)

pub returns-then-depth-eq0-clause-len : goal.returns-then-depth-eq0-clause-len
returns-then-depth-eq0-clause-len g t c =
    let x = ap length c.in_ok-push.ensures.items in
    let y = tables_zero c.args.depth c.args.table.now c.if-depth-eq0.true in
    omega (arith, x, y, length-append c.args.frames.now.items (c.frame.result ∷ []))

pub returns-then-depth-eq0-clause-frames : goal.returns-then-depth-eq0-clause-frames
returns-then-depth-eq0-clause-frames g t c =
    pushed c.args.frames.now.items c.push.new.self.items c.frame.result
    (frame_of c.args.table.now) c.in_ok-push.ensures.items c.frame.ensures
    ∙ ap (λ xs. map (λ (f : Frame). f.0) c.args.frames.now.items ++ xs)
    (sym (frames_last c.args.depth c.args.table.now c.if-depth-eq0.true))

pub read-requires-clause-wide : goal.read-requires-clause-wide
read-requires-clause-wide g t c = shaped_wide c.args.depth c.args.table.now c.requires.shape

pub loop-i-init : goal.loop-i-init
loop-i-init g t c = record {
  count = λ f.
      let x = count_push f c.args.frames.now.items c.push.new.self.items c.frame.result c.in_ok-push.ensures.items in
      let z : is_one c.frame.result.0 f ≡ is_one (frame_of c.args.table.now) f = ap (λ n. is_one n f) c.frame.ensures in
      let y = uses_start c.args.depth f c.args.table.now in
      omega (arith, x, y, z);
  frames =
      pushed c.args.frames.now.items c.push.new.self.items c.frame.result
      (frame_of c.args.table.now) c.in_ok-push.ensures.items c.frame.ensures
      ∙ ap (λ xs. map (λ (f : Frame). f.0) c.args.frames.now.items ++ (frame_of c.args.table.now ∷ xs))
      (sym (frames_start c.args.depth c.args.table.now));
  len = let x = ap length c.in_ok-push.ensures.items in
      omega (arith, x, length-append c.args.frames.now.items (c.frame.result ∷ []));
}

pub frames_in-requires : goal.frames_in-requires
frames_in-requires g t c κs within =
    let h =
    slot_child_is c.args.depth c.in-Child.child c.read.result.now
    (rw c.read.ensures
    (shaped_slot c.args.depth c.args.table.now c.loop-i.i c.requires.shape
    c.loop-i-test.true)) c.in-Child.is in
    let le : 1 ≤ c.args.depth = h.0 in
    (omega (arith, c.decreases), (within, (omega (arith, c.requires.depth_in), rw c.deref.ensures h.1)))

pub loop-i-preserved : goal.loop-i-preserved
loop-i-preserved g t c =
    let k : 1 ≤ c.args.depth = omega (arith, c.if-depth-eq0.false) in
    let wide = shaped_wide c.args.depth c.args.table.now c.requires.shape in
    elim c.match-read.branch [
      | in-Child+in_ok-frames_in w ↦ record {
        frames =
            let x = rw w.deref.ensures at w.in_ok-frames_in.ensures.frames in
            let y =
            frames_more_child c.args.depth c.loop-i.i c.args.table.now w.in-Child.child c.read.result.now k
            c.read.ensures w.in-Child.is in
            rw w.frames-is
            (x
            ∙ joined_on (map (λ (f : Frame). f.0) c.args.frames.now.items) _ _ _
            (map (λ (f : Frame). f.0) c.loop-i.frames.items)
            (frame_of c.args.table.now) c.loop-i.invariant.frames y);
        count = λ f.
            let x = rw w.deref.ensures at (w.in_ok-frames_in.ensures.count f) in
            let y =
            uses_more_child c.args.depth c.loop-i.i f c.args.table.now w.in-Child.child c.read.result.now k wide
            c.loop-i-test.true c.read.ensures w.in-Child.is in
            let z = c.loop-i.invariant.count f in
            rw w.frames-is (omega (arith, x, y, z));
        len =
            let x = rw w.deref.ensures at w.in_ok-frames_in.ensures.len in
            let y =
            tables_more_child c.args.depth c.loop-i.i c.args.table.now w.in-Child.child c.read.result.now k wide
            c.loop-i-test.true c.read.ensures w.in-Child.is in
            let z = c.loop-i.invariant.len in
            rw w.frames-is (omega (arith, x, y, z));
      }
      | in_default w ↦ record {
        frames =
            let y =
            frames_more_word c.args.depth c.loop-i.i w.in_default.field-0 c.args.table.now c.read.result.now
            c.read.ensures w.in_default.is in
            rw w.frames-is
            (c.loop-i.invariant.frames
            ∙ ap (λ xs. map (λ (f : Frame). f.0) c.args.frames.now.items ++ (frame_of c.args.table.now ∷ xs))
            (sym y));
        count = λ f.
            let y =
            uses_more_word c.args.depth c.loop-i.i f w.in_default.field-0 c.args.table.now c.read.result.now wide
            c.loop-i-test.true c.read.ensures w.in_default.is in
            let z = c.loop-i.invariant.count f in
            rw w.frames-is (omega (arith, y, z));
        len =
            let y =
            tables_more_word c.args.depth c.loop-i.i w.in_default.field-0 c.args.table.now c.read.result.now wide
            c.loop-i-test.true c.read.ensures w.in_default.is in
            let z = c.loop-i.invariant.len in
            rw w.frames-is (omega (arith, y, z));
      }
    ]

pub returns-clause-count : goal.returns-clause-count
returns-clause-count g t c f =
    let x = c.loop-i.invariant.count f in
    let y =
    uses_all c.args.depth c.loop-i.i f c.args.table.now
    (shaped_wide c.args.depth c.args.table.now c.requires.shape) c.loop-i-test.false in
    omega (arith, x, y)

pub returns-clause-len : goal.returns-clause-len
returns-clause-len g t c =
    let y =
    tables_all c.args.depth c.loop-i.i c.args.table.now
    (shaped_wide c.args.depth c.args.table.now c.requires.shape) c.loop-i-test.false in
    omega (arith, c.loop-i.invariant.len, y)

pub returns-clause-frames : goal.returns-clause-frames
returns-clause-frames g t c =
    c.loop-i.invariant.frames
    ∙ ap (λ xs. map (λ (f : Frame). f.0) c.args.frames.now.items ++ xs)
    (frames_all c.args.depth c.loop-i.i c.args.table.now c.loop-i.auto.i-end c.loop-i-test.false)
