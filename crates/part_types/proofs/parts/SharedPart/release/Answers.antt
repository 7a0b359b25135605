use Rattle.std.proofs.Common.{◌≡◌, ◌++◌, arith, ap, ◌∙◌, length, length-append, rules}
use Rattle.hyp_pool.proofs.Counts.{all_given_count, all_given_length}
use Rattle.hyp_pool.proofs.Pools.{same_pool}
use Rattle.page_state.specs.Counts.{frame_count}
use Rattle.page_state.specs.Tables.{all_given}
use Rattle.table_tree.specs.Stocks.{frames_of}
use Rattle.table_tree.specs.View.{tree_of}
use Rattle.table_tree.proofs.Same.{same_tree}
use Rattle.part_types.specs.Planned.{pool_with}
use Rattle.part_types.proofs.Planned.{apart_same, comes_back, counted}
use Rattle.part_types.proofs.Shares.{row_of, shared}
use Rattle.part_types.proofs.parts.SharedPart.release.Goals as goal

pub release-requires-2-clause-distinct : goal.release-requires-2-clause-distinct
release-requires-2-clause-distinct g c f =
    let q = c.args.self.now.pool.frames in
    let a = frames_of c.args.plan.host.spare.stock in
    let b = frames_of c.args.plan.hyp.spare.stock in
    let e = ap (frame_count f) c.release.ensures.given.frames in
    omega (arith, e, all_given_count f b q, counted f a b, counted f (a ++ b) q, c.requires.apart.0 f)

pub release-requires-2-clause-covered : goal.release-requires-2-clause-covered
release-requires-2-clause-covered g c =
    let q = c.args.self.now.pool.frames in
    let a = frames_of c.args.plan.host.spare.stock in
    let b = frames_of c.args.plan.hyp.spare.stock in
    let e = ap length c.release.ensures.given.frames in
    omega (
      arith,
      e,
      all_given_length b q,
      length-append a b,
      length-append (a ++ b) q,
      c.requires.pool.covered,
      c.release.ensures.given.room,
    )

pub invariant_of-self : goal.invariant_of-self
invariant_of-self g c =
    let s = c.args.self.now in
    let p = c.args.plan in
    let a = frames_of p.host.spare.stock in
    let b = frames_of p.hyp.spare.stock in
    let e = c.release.ensures.given in
    let h = c.release-2.ensures.given in
    let all : c.release-2.new.pool ≡ pool_with p s =
    same_pool c.release-2.new.pool (pool_with p s)
    (h.frames ∙ ap (all_given a) e.frames ∙ comes_back a b s.pool.frames s.pool.room c.requires.pool)
    (h.room ∙ e.room) in
    record {
      apart = apart_same s.host.tree s.hyp.tree c.release-2.new.self.tree c.release.new.self.tree
          (pool_with p s) c.release-2.new.pool h.stays.geometry h.stays.table e.stays.geometry e.stays.table
          all c.requires.apart;
      alike = search (rules);
    }

pub returns-clause-same : goal.returns-clause-same
returns-clause-same g c =
    let s = c.args.self.now in
    let p = c.args.plan in
    let a = frames_of p.host.spare.stock in
    let b = frames_of p.hyp.spare.stock in
    let e = c.release.ensures.given in
    let h = c.release-2.ensures.given in
    ap (λ x. shared (row_of s) x (tree_of c.release.new.self.tree) c.release-2.new.pool.frames)
    (same_tree c.release-2.new.self.tree s.host.tree h.stays.geometry h.stays.table)
    ∙ ap (λ x. shared (row_of s) (tree_of s.host.tree) x c.release-2.new.pool.frames)
    (same_tree c.release.new.self.tree s.hyp.tree e.stays.geometry e.stays.table)
    ∙ ap (shared (row_of s) (tree_of s.host.tree) (tree_of s.hyp.tree))
    (h.frames ∙ ap (all_given a) e.frames ∙ comes_back a b s.pool.frames s.pool.room c.requires.pool)
