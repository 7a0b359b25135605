use Rattle.std.proofs.Common.{◌∙◌, ap}
use Rattle.call_table.specs.Rows.{named, named_in}
use Rattle.call_table.proofs.row.CallName.of_word.Goals as goal

pub returns : goal.returns
unfolding named
returns c = c.first_named.ensures ∙ ap (λ some. named_in some c.args.word.now) c.all.ensures
