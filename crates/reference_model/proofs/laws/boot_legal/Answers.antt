use Rattle.reference_model.proofs.conditions.BootLegal.{boot_legal, boot_rows}
use Rattle.reference_model.proofs.laws.boot_legal.Goals as goal

pub returns-clause-legal : goal.returns-clause-legal
returns-clause-legal c = boot_legal

pub returns-clause-rows : goal.returns-clause-rows
returns-clause-rows c = boot_rows
