use Rattle.page_state.specs.Runs.{map_of}
use Rattle.ghost_coarse.proofs.Along.{between_served}
use Rattle.ghost_coarse.proofs.lacking.first_between.Goals as goal

pub returns-then-are_words : goal.returns-then-are_words
returns-then-are_words c =
    between_served
    (map_of c.args.runs.now) c.args.indexes.now c.args.run c.args.depth c.args.low c.args.high
    c.requires.covers.goes c.requires.covers.first c.requires.covers.end
    (c.are_words.ensures c.if-are_words.true)
