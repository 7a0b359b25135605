use Rattle.image_findings.proofs.Named.{one_borrower, one_owner}
use Rattle.image_findings.proofs.laws.one_each.Goals as goal

pub returns-clause-owner : goal.returns-clause-owner
returns-clause-owner c = one_owner

pub returns-clause-borrower : goal.returns-clause-borrower
returns-clause-borrower c = one_borrower
