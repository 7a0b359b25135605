use Rattle.std.proofs.Common.{ap, sym, subst}
use Rattle.ghost_spec.specs.Kept.{AreLowFrames, HasLowTables}
use Rattle.ghost_oracle.proofs.trees.body_from.Goals as goal

pub returns-clause-kept : goal.returns-clause-kept
returns-clause-kept g c = λ low. record {
  tree = c.in_ok-tree_from.ensures.kept;
  tables = subst HasLowTables (sym (ap (λ t. t.table) c.in_ok-tree_from.ensures.tree)) low.tables;
  free = subst AreLowFrames (sym c.in_ok-frames_of.ensures) low.free;
}
