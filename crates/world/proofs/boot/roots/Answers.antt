use Rattle.std.proofs.Common.{◌≡◌, ◌+◌, ap, sym, ◌∙◌, arith, length, drop}
use Rattle.std.proofs.lemmas.Result.{IfOk-from_err}
use Rattle.hyp_pool.proofs.Order.{length-frames_from}
use Rattle.page_state.specs.Trees.{frames_from, root_tree}
use Rattle.page_state.specs.declared.entry.PageRange.{PageRange}
use Rattle.page_state.specs.Geometries.{levels_below}
use Rattle.page_state.specs.Counts.{frame_count}
use Rattle.table_tree.specs.View.{tree_of, uses, tables_of}
use Rattle.world.proofs.Boots.{two_taken}
use Rattle.page_state.proofs.Counts.{count_next}
use Rattle.world.proofs.boot.roots.Given.{Over}
use Rattle.world.proofs.boot.roots.Goals as goal

pub take_root-hyp_root-requires : goal.take_root-hyp_root-requires
take_root-hyp_root-requires g c =
    let taken = ap length c.take_root-host_root.ensures.taken in
    let all =
    ap length c.in_ok-pool.ensures.frames
    ∙ length-frames_from c.carve-carve.result.first.0 c.carve-carve.result.count in
    let count = ap (λ (r : PageRange). r.count) c.carve-carve.ensures.value in
    omega (arith, c.requires, taken, all, count)

-- the roots' frames, and those left
taken : (g : Over) (c : goal.After-new-hyp g) → let r = c.carve-carve.result in
    (c.take_root-host_root.result.0 ≡ r.first.0)
    × (c.take_root-hyp_root.result.0 ≡ r.first.0 + 1)
    × (c.take_root-hyp_root.new.pool.frames ≡ drop 2 (frames_from r.first.0 r.count))
taken g c =
    let r = c.carve-carve.result in
    let count = ap (λ (x : PageRange). x.count) c.carve-carve.ensures.value in
    two_taken r.first.0 r.count c.take_root-host_root.result.0 c.take_root-hyp_root.result.0
    c.take_root-host_root.new.pool.frames c.take_root-hyp_root.new.pool.frames
    (omega (arith, c.requires, count))
    (sym c.in_ok-pool.ensures.frames ∙ c.take_root-host_root.ensures.taken) c.take_root-hyp_root.ensures.taken

pub returns-clause-host : goal.returns-clause-host
returns-clause-host g c =
    ap tree_of c.new-host.ensures ∙ c.in_ok-new.ensures.tree
    ∙ ap (root_tree (levels_below c.args.geometry))
    ((taken g c).0 ∙ ap (λ (r : PageRange). r.first.0) c.carve-carve.ensures.value)

pub returns-clause-hyp : goal.returns-clause-hyp
returns-clause-hyp g c =
    ap tree_of c.new-hyp.ensures ∙ c.in-Ok.ensures.tree
    ∙ ap (root_tree (levels_below c.args.geometry))
    ((taken g c).1 ∙ ap (λ (r : PageRange). r.first.0 + 1) c.carve-carve.ensures.value)

pub returns-clause-pool : goal.returns-clause-pool
returns-clause-pool g c =
    (taken g c).2 ∙ ap (λ (r : PageRange). drop 2 (frames_from r.first.0 r.count)) c.carve-carve.ensures.value

pub returns-clause-apart : goal.returns-clause-apart
returns-clause-apart g c = (
  λ f.
      let a =
      ap (frame_count f) c.take_root-host_root.ensures.taken
      ∙ count_next f c.take_root-host_root.result.0 c.take_root-host_root.new.pool.frames in
      let b =
      ap (frame_count f) c.take_root-hyp_root.ensures.taken
      ∙ count_next f c.take_root-hyp_root.result.0 c.take_root-hyp_root.new.pool.frames in
      let h = ap (λ t. uses t f) c.new-host.ensures ∙ c.in_ok-new.ensures.uses f in
      let y = ap (λ t. uses t f) c.new-hyp.ensures ∙ c.in-Ok.ensures.uses f in
      omega (
        arith,
        a,
        b,
        h,
        y,
        c.counted_frames.ensures.once f c.in_ok-pool.pool.frames c.in_ok-pool.ensures.pool.rising,
      ),
  let a = ap length c.take_root-host_root.ensures.taken in
      let b = ap length c.take_root-hyp_root.ensures.taken in
      let h = ap tables_of c.new-host.ensures ∙ c.in_ok-new.ensures.tables in
      let y = ap tables_of c.new-hyp.ensures ∙ c.in-Ok.ensures.tables in
      omega (
        arith,
        a,
        b,
        h,
        y,
        c.in_ok-pool.ensures.pool.covered,
        c.take_root-host_root.ensures.room,
        c.take_root-hyp_root.ensures.room,
      ),
)

pub returns-in_err-pool-clause-host : goal.returns-in_err-pool-clause-host
returns-in_err-pool-clause-host g c = IfOk-from_err _ _ c.from_residual.ensures.0

pub returns-in_err-pool-clause-hyp : goal.returns-in_err-pool-clause-hyp
returns-in_err-pool-clause-hyp g c = IfOk-from_err _ _ c.from_residual.ensures.0

pub returns-in_err-pool-clause-pool : goal.returns-in_err-pool-clause-pool
returns-in_err-pool-clause-pool g c = IfOk-from_err _ _ c.from_residual.ensures.0

pub returns-in_err-pool-clause-host_geometry : goal.returns-in_err-pool-clause-host_geometry
returns-in_err-pool-clause-host_geometry g c = IfOk-from_err _ _ c.from_residual.ensures.0

pub returns-in_err-pool-clause-hyp_geometry : goal.returns-in_err-pool-clause-hyp_geometry
returns-in_err-pool-clause-hyp_geometry g c = IfOk-from_err _ _ c.from_residual.ensures.0

pub returns-in_err-pool-clause-apart : goal.returns-in_err-pool-clause-apart
returns-in_err-pool-clause-apart g c = IfOk-from_err _ _ c.from_residual.ensures.0

pub returns-in_err-new-clause-host : goal.returns-in_err-new-clause-host
returns-in_err-new-clause-host g c = IfOk-from_err _ _ c.from_residual-in_err-new.ensures.0

pub returns-in_err-new-clause-hyp : goal.returns-in_err-new-clause-hyp
returns-in_err-new-clause-hyp g c = IfOk-from_err _ _ c.from_residual-in_err-new.ensures.0

pub returns-in_err-new-clause-pool : goal.returns-in_err-new-clause-pool
returns-in_err-new-clause-pool g c = IfOk-from_err _ _ c.from_residual-in_err-new.ensures.0

pub returns-in_err-new-clause-host_geometry : goal.returns-in_err-new-clause-host_geometry
returns-in_err-new-clause-host_geometry g c = IfOk-from_err _ _ c.from_residual-in_err-new.ensures.0

pub returns-in_err-new-clause-hyp_geometry : goal.returns-in_err-new-clause-hyp_geometry
returns-in_err-new-clause-hyp_geometry g c = IfOk-from_err _ _ c.from_residual-in_err-new.ensures.0

pub returns-in_err-new-clause-apart : goal.returns-in_err-new-clause-apart
returns-in_err-new-clause-apart g c = IfOk-from_err _ _ c.from_residual-in_err-new.ensures.0

pub returns-in_default-clause-host : goal.returns-in_default-clause-host
returns-in_default-clause-host g c = tt

pub returns-in_default-clause-hyp : goal.returns-in_default-clause-hyp
returns-in_default-clause-hyp g c = tt

pub returns-in_default-clause-pool : goal.returns-in_default-clause-pool
returns-in_default-clause-pool g c = tt

pub returns-in_default-clause-host_geometry : goal.returns-in_default-clause-host_geometry
returns-in_default-clause-host_geometry g c = tt

pub returns-in_default-clause-hyp_geometry : goal.returns-in_default-clause-hyp_geometry
returns-in_default-clause-hyp_geometry g c = tt

pub returns-in_default-clause-apart : goal.returns-in_default-clause-apart
returns-in_default-clause-apart g c = tt
