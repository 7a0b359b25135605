use Rattle.std.proofs.Common.{◌∙◌, ap}
use Rattle.call_table.specs.Rows.{numbered, numbered_in}
use Rattle.call_table.proofs.row.CallName.of_number.Goals as goal

pub returns : goal.returns
unfolding numbered
returns c = c.first_numbered.ensures ∙ ap (λ some. numbered_in some c.args.number) c.all.ensures
