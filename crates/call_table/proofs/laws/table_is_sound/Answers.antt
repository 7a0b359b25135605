use Rattle.call_table.proofs.laws.table_is_sound.Goals as goal
use Rattle.call_table.proofs.CallsNamed.{calls_named, rows_differ, words_read}
use Rattle.call_table.proofs.StepsMade.{steps_made}

pub returns-clause-made : goal.returns-clause-made
returns-clause-made c = steps_made

pub returns-clause-named : goal.returns-clause-named
returns-clause-named c = calls_named

pub returns-clause-differ : goal.returns-clause-differ
returns-clause-differ c = rows_differ

pub returns-clause-words : goal.returns-clause-words
returns-clause-words c = words_read
