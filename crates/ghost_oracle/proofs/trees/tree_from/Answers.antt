use Rattle.std.proofs.Common.{ap, ◌∙◌}
use Rattle.page_state.specs.Geometries.{levels_below}
use Rattle.ghost_oracle.proofs.Under.{under_tree}
use Rattle.table_tree.proofs.RawTables.{shaped_raw}
use Rattle.table_tree.specs.View.{tree_of}
use Rattle.std.specs.Prelude.{◌+◌, ◌*◌, min}
use Rattle.table_tree.specs.Reading.{count_of}
use Rattle.table_tree.specs.View.{tables_of}
use Rattle.ghost_oracle.proofs.Counting.{on_ok, tables_under}
use Rattle.ghost_oracle.proofs.trees.tree_from.Goals as goal

pub walk-requires : goal.walk-requires
walk-requires g c =
    record {
      raw = shaped_raw
          (levels_below c.tree-tree.result.now.geometry) c.tree-tree.result.now.table c.tree-tree.result.now.shaped;
    }

pub tree_with_maplets-requires : goal.tree_with_maplets-requires
tree_with_maplets-requires g c =
    c.in_ok-walked.ensures.tree ∙ under_tree c.tree-tree.result.now ∙ ap tree_of c.tree-tree.ensures

pub returns-in-Words-clause-tree : goal.returns-in-Words-clause-tree
returns-in-Words-clause-tree g c =
    c.in_ok-walked.ensures.tree ∙ under_tree c.tree-tree.result.now ∙ ap tree_of c.tree-tree.ensures

pub returns-in-Words-clause-reads : goal.returns-in-Words-clause-reads
returns-in-Words-clause-reads g c =
    c.in_ok-walked.ensures.reads
    ∙ ap (λ n. min (count_of c.args.reads.now + 512 * n) 18446744073709551615)
    (tables_under c.tree-tree.result.now ∙ ap tables_of c.tree-tree.ensures)

pub returns-in-Maplets-clause-reads : goal.returns-in-Maplets-clause-reads
returns-in-Maplets-clause-reads g c =
    on_ok _ c.tree_with_maplets.result
    (c.in_ok-walked.ensures.reads
    ∙ ap (λ n. min (count_of c.args.reads.now + 512 * n) 18446744073709551615)
    (tables_under c.tree-tree.result.now ∙ ap tables_of c.tree-tree.ensures))
