use Rattle.image_findings.proofs.Named.{are_borrowed}
use Rattle.image_findings.proofs.laws.all_borrowed.Goals as goal

pub returns : goal.returns
returns c = are_borrowed
