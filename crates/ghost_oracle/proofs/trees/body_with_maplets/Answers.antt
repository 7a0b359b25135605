use Rattle.std.proofs.Common.{ap, sym, subst, ◌∙◌}
use Rattle.reference_model.specs.model.State.{Guest}
use Rattle.ghost_spec.specs.Kept.{AreLowFrames, HasLowTables}
use Rattle.ghost_oracle.proofs.trees.body_with_maplets.Goals as goal

pub tree_with_maplets-requires : goal.tree_with_maplets-requires
tree_with_maplets-requires g c = ap (λ (x : Guest). x.tree) c.requires

pub returns-clause-kept : goal.returns-clause-kept
returns-clause-kept g c = λ low. record {
  tree = c.in_ok-tree_with_maplets.ensures.kept;
  tables = subst HasLowTables (sym (ap (λ t. t.table) c.in_ok-tree_with_maplets.ensures.tree)) low.tables;
  free =
      subst AreLowFrames
      (sym
      (c.in_ok-from_slice.ensures.items ∙ c.as_slice.ensures.value
      ∙ ap (λ (x : Guest). x.free) c.requires)) low.free;
}
