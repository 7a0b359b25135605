use Rattle.std.proofs.Common.{refl}
use Rattle.page_state.specs.Geometries.{levels_below}
use Rattle.table_tree.specs.View.{meaning, word_of}
use Rattle.table_tree.specs.RawView.{raw_meaning, raw_word_of}
use Rattle.table_tree.proofs.RawTables.{shaped_raw}
use Rattle.table_tree.proofs.RawViews.{same_standing}
use Rattle.table_tree.proofs.tree.Tree.into_raw.Goals as goal
use Rattle.table_tree.specs.Roots.{map_under}

pub invariant_of-result : goal.invariant_of-result
invariant_of-result g c =
    record { raw = shaped_raw (levels_below c.args.self.geometry) c.args.self.table c.args.self.shaped }

pub returns-clause-map : goal.returns-clause-map
unfolding raw_meaning meaning map_under
returns-clause-map g c = refl

pub returns-clause-words : goal.returns-clause-words
unfolding raw_word_of word_of
returns-clause-words g c = refl

pub returns-clause-standing : goal.returns-clause-standing
returns-clause-standing g c = same_standing c.args.self _ refl refl
