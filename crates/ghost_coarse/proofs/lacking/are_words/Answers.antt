use Rattle.std.proofs.Common.{sym, ◌∙◌}
use Rattle.ghost_coarse.proofs.Along.{words_along}
use Rattle.ghost_coarse.proofs.lacking.are_words.Goals as goal

pub returns : goal.returns
returns c =
    λ t i p q. words_along c.args.run c.args.depth c.args.low c.args.high c.requires.first
    (sym c.is_said.ensures ∙ c.if-not-is_said.false) (sym c.is_said-2.ensures ∙ t) i p q
