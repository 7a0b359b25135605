use Rattle.report_json.proofs.Rebuilt.{made}
use Rattle.report_json.proofs.laws.rebuilt.Goals as goal

pub returns : goal.returns
returns c = made
