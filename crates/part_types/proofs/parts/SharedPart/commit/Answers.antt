use Rattle.std.proofs.Common.{◌++◌, arith, ap, ◌∙◌, length-append}
use Rattle.component.specs.View.{back_from}
use Rattle.hyp_pool.proofs.Counts.{given_counted, given_append}
use Rattle.page_state.specs.Tables.{all_given}
use Rattle.table_tree.specs.Stocks.{frames_of}
use Rattle.table_tree.proofs.Sums.{tree_some}
use Rattle.part_types.specs.Planned.{in_hand, planned}
use Rattle.part_types.proofs.Planned.{counted, host_after, hyp_after, left_after}
use Rattle.part_types.proofs.Pools.{given_both}
use Rattle.part_types.proofs.Shares.{changed}
use Rattle.part_types.proofs.parts.SharedPart.commit.Goals as goal

pub commit-requires-clause-apart : goal.commit-requires-clause-apart
commit-requires-clause-apart g c =
    let s = c.args.self.now in
    let a = frames_of c.args.plan.host.spare.stock in
    let b = frames_of c.args.plan.hyp.spare.stock in
    record {
      distinct = λ f. omega (arith, c.requires.planned.apart.0 f, counted f a b, counted f (a ++ b) s.pool.frames);
      covered =
          omega (
            arith,
            c.requires.planned.apart.1,
            length-append a b,
            length-append (a ++ b) s.pool.frames,
            tree_some s.hyp.tree,
          );
    }

pub commit-requires-2-clause-apart : goal.commit-requires-2-clause-apart
commit-requires-2-clause-apart g c =
    let s = c.args.self.now in
    let a = frames_of c.args.plan.host.spare.stock in
    let b = frames_of c.args.plan.hyp.spare.stock in
    let kept = c.commit.ensures.keeps in
    record {
      distinct =
          λ f. omega
          (arith, c.requires.planned.apart.0 f, counted f a b, counted f (a ++ b) s.pool.frames, kept.frames f);
      covered =
          omega (
            arith,
            c.requires.planned.apart.1,
            length-append a b,
            length-append (a ++ b) s.pool.frames,
            tree_some c.commit.new.self.tree,
            kept.tables,
            kept.room,
          );
    }

pub returns-clause-made : goal.returns-clause-made
returns-clause-made g c =
    let s = c.args.self.now in
    let p = c.args.plan in
    let is = c.requires.planned in
    let fs = back_from s.host.tree p.host.change in
    let gs = back_from s.hyp.tree p.hyp.change in
    changed s (in_hand p ++ s.pool.frames)
    (planned p) c.commit.new.self.tree c.commit-2.new.self.tree c.commit-2.new.pool.frames
    (c.commit.ensures.tree ∙ host_after s p is) (c.commit-2.ensures.tree ∙ hyp_after s p is)
    (c.commit-2.ensures.pool ∙ ap (all_given gs) c.commit.ensures.pool
    ∙ given_both given_counted given_append fs gs s.pool.frames ∙ ap (all_given (fs ++ gs)) (left_after s p is))
