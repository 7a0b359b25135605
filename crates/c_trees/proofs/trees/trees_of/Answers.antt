use Rattle.std.proofs.Common.{arith}
use Rattle.ghost_spec.specs.States.{contents_in}
use Rattle.c_trees.specs.Entries.{kept_map}
use Rattle.c_trees.specs.Given.{fault_of}
use Rattle.c_trees.proofs.Passed.{passed_as, passed_on}
use Rattle.c_trees.proofs.Roots.{all_found, more_found, stopped_found}
use Rattle.c_trees.proofs.trees.trees_of.Goals as goal

pub returns-in_err-tested-clause-fault : goal.returns-in_err-tested-clause-fault
returns-in_err-tested-clause-fault c =
    passed_on _ _ c.from_residual.result c.tested.result c.in_err-tested.field-0.0 c.in_err-tested.was
    c.from_residual.ensures.1
    (λ x h. h) (c.tested.ensures.fault c.args.geometry)

pub returns-in_err-found-clause-fault : goal.returns-in_err-found-clause-fault
returns-in_err-found-clause-fault c =
    passed_as fault_of _ _ c.from_residual-in_err-found.result c.tree_from.result c.in_err-found.field-0.0
    c.in_err-found.was c.from_residual-in_err-found.ensures.1
    (λ s h. stopped_found c.args.geometry c.args.pages.now c.args.roots.now
    (kept_map (contents_in c.args.kept.now)) c.loop-tree.tree c.loop-tree.met.items
    c.loop-tree.trees.items c.loop-tree.invariant s c.loop-tree-test.true c.in_ok-tested.ensures.given
    h) c.tree_from.ensures.stopped

pub loop-tree-preserved : goal.loop-tree-preserved
loop-tree-preserved c =
    more_found c.args.geometry c.args.pages.now c.args.roots.now
    (kept_map (contents_in c.args.kept.now)) c.loop-tree.tree c.loop-tree.met.items
    c.loop-tree.trees.items c.loop-tree.invariant c.tree_from.new.met.items c.push_tree.new.trees.items
    c.in_ok-found.found c.loop-tree-test.true
    c.in_ok-found.ensures.met c.in_ok-found.ensures.apart c.in_ok-push_tree.ensures c.in_ok-found.ensures.tree
    c.in_ok-found.ensures.kept

pub returns-clause-trees : goal.returns-clause-trees
returns-clause-trees c =
    all_found c.args.geometry c.args.pages.now c.args.roots.now
    (kept_map (contents_in c.args.kept.now)) c.loop-tree.tree c.loop-tree.met.items
    c.loop-tree.trees.items c.loop-tree.invariant
    (omega (arith, c.loop-tree-test.false)) c.in_ok-tested.ensures.given
