use Rattle.std.proofs.Common.{ℕ, ◌+◌, refl, sym, subst, arith}
use Rattle.run_list.specs.Runs.{EndBefore}
use Rattle.walked_tables.proofs.FromRoots.{all_map, all_met, begun, more, stopped_at}
use Rattle.walked_tables.proofs.Reach.{root_first, root_place}
use Rattle.walked_tables.proofs.Passed.{passed_on}
use Rattle.walked_tables.proofs.walk.walked.Goals as goal

pub loop-k-init : goal.loop-k-init
loop-k-init c =
    begun c.args.profile.now c.args.pages.now c.args.tree c.args.depth c.args.roots.now c.args.met.now.items
    c.new-runs.result.items c.new-runs.ensures.items c.requires.apart

pub walk_table-requires-clause-place : goal.walk_table-requires-clause-place
walk_table-requires-clause-place c =
    root_place c.args.depth c.loop-k.k _ c.requires.depth_in c.loop-k-test.true c.requires.few

pub walk_table-requires-clause-behind : goal.walk_table-requires-clause-behind
walk_table-requires-clause-behind c =
    subst (λ (j : ℕ). EndBefore (j + 1) c.loop-k.runs.items)
    (sym (root_first c.args.depth c.loop-k.k _ c.loop-k-test.true c.requires.few)) c.loop-k.invariant.behind

pub returns-in_err-walk_table-clause-stopped : goal.returns-in_err-walk_table-clause-stopped
returns-in_err-walk_table-clause-stopped c =
    passed_on _ _ c.from_residual.result c.walk_table.result c.in_err-walk_table.field-0.0 c.in_err-walk_table.was
    c.from_residual.ensures.1
    (stopped_at c.args.profile.now c.args.pages.now c.args.tree c.args.depth c.args.roots.now c.args.met.now.items
    c.loop-k.k c.loop-k.met.items c.loop-k.runs.items c.loop-k.invariant c.loop-k-test.true _ _
    refl) c.walk_table.ensures.stopped

pub loop-k-preserved : goal.loop-k-preserved
loop-k-preserved c =
    more c.args.profile.now c.args.pages.now c.args.tree c.args.depth c.args.roots.now c.args.met.now.items c.loop-k.k
    c.loop-k.met.items c.loop-k.runs.items c.loop-k.invariant c.loop-k-test.true _ _ refl c.requires.few
    c.walk_table.new.met.items c.walk_table.new.runs.items
    c.in_ok-walk_table.ensures.walked.met c.in_ok-walk_table.ensures.walked.apart c.in_ok-walk_table.ensures.walked.map
    c.in_ok-walk_table.ensures.walked.kept c.in_ok-walk_table.ensures.walked.behind

pub returns-clause-walked : goal.returns-clause-walked
returns-clause-walked c = record {
  map =
      all_map c.args.profile.now c.args.pages.now c.args.tree c.args.depth c.args.roots.now c.args.met.now.items
      c.loop-k.k c.loop-k.met.items c.loop-k.runs.items c.loop-k.invariant
      (omega (arith, c.loop-k.auto.k-end)) (omega (arith, c.loop-k-test.false));
  coarsest = c.loop-k.invariant.kept.coarsest;
  in_reach = c.loop-k.invariant.kept.in_reach;
  met =
      all_met c.args.profile.now c.args.pages.now c.args.tree c.args.depth c.args.roots.now c.args.met.now.items
      c.loop-k.k c.loop-k.met.items c.loop-k.runs.items c.loop-k.invariant
      (omega (arith, c.loop-k.auto.k-end)) (omega (arith, c.loop-k-test.false));
  apart = c.loop-k.invariant.apart;
}
