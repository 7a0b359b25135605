use Rattle.image_findings.proofs.Named.{are_shared}
use Rattle.image_findings.proofs.laws.all_shared.Goals as goal

pub returns : goal.returns
returns c = are_shared
