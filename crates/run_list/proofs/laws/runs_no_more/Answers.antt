use Rattle.run_list.proofs.Counts.{runs_no_more}
use Rattle.run_list.proofs.laws.runs_no_more.Goals as goal

pub returns : goal.returns
returns g c = runs_no_more g.V.Advance.advance
