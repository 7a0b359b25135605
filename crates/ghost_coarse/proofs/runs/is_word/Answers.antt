use Rattle.std.proofs.Common.{◌∙◌, arith}
use Rattle.page_state.specs.Runs.{map_of}
use Rattle.coarse_trees.proofs.OneWord.{one-word-same}
use Rattle.ghost_coarse.proofs.runs.is_word.Goals as goal

pub returns : goal.returns
returns c =
    c.is_one_word.ensures
    ∙ one-word-same (map_of c.runs_from.result.now) (map_of c.args.runs.now) c.args.block
    (λ i l. c.runs_from.ensures.same _ (rw c.span.ensures (omega arith)))
