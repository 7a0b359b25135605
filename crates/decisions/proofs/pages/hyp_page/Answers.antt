use Rattle.std.proofs.Common.{rules}
use Rattle.decisions.proofs.pages.hyp_page.Goals as goal

pub returns : goal.returns
returns c = search rules
