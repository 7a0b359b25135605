use Rattle.std.proofs.Common.{◌≡◌, ◌++◌, ◌∙◌}
use Rattle.hyp_pool.proofs.Pools.{same_pool}
use Rattle.table_tree.specs.Stocks.{frames_of}
use Rattle.table_tree.specs.View.{tree_of}
use Rattle.table_tree.proofs.Same.{same_tree}
use Rattle.guest_component.specs.Bodies.{phase_of}
use Rattle.guest_component.specs.InHand.{pool_with}
use Rattle.guest_component.proofs.Guests.{owned, same_parts}
use Rattle.guest_component.proofs.InHand.{comes_back}
use Rattle.guest_component.proofs.body.Body.release.Goals as goal

pub invariant_of-self : goal.invariant_of-self
invariant_of-self g c =
    let b = c.args.self.now in
    let e = c.release.ensures.given in
    let fs = frames_of c.args.plan.spare.stock in
    let all : c.release.new.pool ≡ pool_with c.args.plan b =
    same_pool c.release.new.pool (pool_with c.args.plan b)
    (e.frames ∙ comes_back fs b.pool.frames b.pool.room c.requires.pool) e.room in
    record {
      own = owned c.release.new.self.tree b.map.tree c.release.new.pool
          (pool_with c.args.plan b) e.stays.geometry e.stays.table all c.requires.own;
    }

pub returns-clause-same : goal.returns-clause-same
returns-clause-same g c =
    let b = c.args.self.now in
    let e = c.release.ensures.given in
    let fs = frames_of c.args.plan.spare.stock in
    same_parts (phase_of b.phase) b.generation b.kind (tree_of c.release.new.self.tree)
    (tree_of b.map.tree) c.release.new.pool.frames (fs ++ b.pool.frames)
    (same_tree c.release.new.self.tree b.map.tree e.stays.geometry e.stays.table)
    (e.frames ∙ comes_back fs b.pool.frames b.pool.room c.requires.pool)
