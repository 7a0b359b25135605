use Rattle.table_audit.proofs.OneAnswer.{finding_once, well_else}
use Rattle.table_audit.proofs.laws.one_answer.Goals as goal

pub returns : goal.returns
returns c = record { well_else = well_else; finding = finding_once }
