use Rattle.freedoms.proofs.Seen.{seen_by_predicted, reads_seen}
use Rattle.freedoms.proofs.laws.seen_by_predicted.Goals as goal

pub returns-clause-seen : goal.returns-clause-seen
returns-clause-seen c = seen_by_predicted

pub returns-clause-reads : goal.returns-clause-reads
returns-clause-reads c = reads_seen
