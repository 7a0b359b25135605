use Rattle.std.proofs.Common.{◌≡◌, ◌∷◌, ap, arith, ◌∙◌}
use Rattle.page_state.specs.Counts.{frame_count}
use Rattle.page_state.proofs.Counts.{count_next}
use Rattle.layer_tests.proofs.changes.empty_bench.Goals as goal

pub returns-clause-distinct : goal.returns-clause-distinct
returns-clause-distinct g c f =
    let x = c.unwrap-root.result.0 in
    let all = c.take.ensures.taken in
    let e : c.in_ok-pool.pool.frames ≡ x ∷ c.take.new.self.frames = rw c.unwrap-root.ensures at all in
    let o = c.counted_frames.ensures.once f c.in_ok-pool.pool.frames c.in_ok-pool.ensures.pool.rising in
    let a = ap (frame_count f) e ∙ count_next f x c.take.new.self.frames in
    omega (arith, o, a, c.in_ok-tree.ensures.uses f)
