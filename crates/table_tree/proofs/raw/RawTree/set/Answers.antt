use Rattle.page_state.specs.Geometries.{levels_below}
use Rattle.table_tree.specs.RawView.{raw_meaning, raw_word_of}
use Rattle.table_tree.proofs.RawViews.{poked_map}
use Rattle.table_tree.proofs.Views.{map_of}
use Rattle.table_tree.proofs.Pokes.{there_good}
use Rattle.table_tree.proofs.raw.RawTree.set.Goals as goal
use Rattle.table_tree.specs.Roots.{map_under}

pub poke_in-requires-clause-there : goal.poke_in-requires-clause-there
unfolding raw_word_of
poke_in-requires-clause-there g c = c.requires.there

pub returns-clause-poked : goal.returns-clause-poked
unfolding raw_word_of
returns-clause-poked g c = c.poke_in.ensures.words

pub returns-clause-map : goal.returns-clause-map
unfolding raw_word_of raw_meaning map_of map_under
returns-clause-map g c =
    let good =
    there_good
    (levels_below c.args.self.now.geometry) c.args.self.now.table c.args.path.now c.args.self.now.raw
    c.requires.there in
    let h = rw c.depth-depth.ensures.value at c.poke_in.ensures in
    poked_map c.args.self.now.geometry c.args.self.now.table c.poke_in.new.table c.args.path.now c.args.word good h
