use Rattle.page_state.proofs.Limits.{largest_row, past_limits_row}
use Rattle.page_state.proofs.laws.limits.Goals as goal

pub returns-clause-largest : goal.returns-clause-largest
returns-clause-largest c = largest_row

pub returns-clause-past : goal.returns-clause-past
returns-clause-past c = past_limits_row
