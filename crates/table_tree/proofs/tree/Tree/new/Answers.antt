use Rattle.std.proofs.Common.{◌∙◌, ap, arith}
use Rattle.table_tree.specs.Meaning.{frame_of}
use Rattle.page_state.specs.Geometries.{levels_below}
use Rattle.page_state.specs.Counts.{is_one}
use Rattle.table_tree.specs.View.{root_of, uses, tables_of, spares_of}
use Rattle.table_tree.proofs.Steps.{blank_shaped, blank_words}
use Rattle.table_tree.proofs.Sums.{words_tables, words_uses, one_most}
use Rattle.table_tree.proofs.Views.{tree_blank}
use Rattle.table_tree.proofs.tree.Tree.new.Goals as goal

pub invariant_of-result : goal.invariant_of-result
invariant_of-result g c =
    record {
      shaped = blank_shaped
          (levels_below c.args.geometry) c.in_ok-table.table c.in_ok-table.ensures.wide c.in_ok-table.ensures.blank;
      tight =
          c.in_ok-table.ensures.tree.tight (levels_below c.args.geometry);
      distinct =
          λ f. omega (
            arith,
            words_uses (levels_below c.args.geometry) c.in_ok-table.table f c.in_ok-table.ensures.wide
                (blank_words c.in_ok-table.table c.in_ok-table.ensures.blank),
            one_most (frame_of c.in_ok-table.table) f,
          );
    }

pub returns-clause-tree : goal.returns-clause-tree
returns-clause-tree g c = tree_blank _ c.args.root.0 c.in_ok-table.ensures.blank c.in_ok-table.ensures.frame

pub returns-clause-root : goal.returns-clause-root
unfolding root_of
returns-clause-root g c = c.in_ok-table.ensures.frame

pub returns-clause-uses : goal.returns-clause-uses
unfolding uses
returns-clause-uses g c f =
    words_uses (levels_below c.args.geometry) c.in_ok-table.table f c.in_ok-table.ensures.wide
    (blank_words c.in_ok-table.table c.in_ok-table.ensures.blank)
    ∙ ap (λ n. is_one n f) c.in_ok-table.ensures.frame

pub returns-clause-tables : goal.returns-clause-tables
unfolding tables_of
returns-clause-tables g c =
    words_tables (levels_below c.args.geometry) c.in_ok-table.table c.in_ok-table.ensures.wide
    (blank_words c.in_ok-table.table c.in_ok-table.ensures.blank)

pub returns-clause-spares : goal.returns-clause-spares
unfolding spares_of
returns-clause-spares g c = c.new-2.ensures
