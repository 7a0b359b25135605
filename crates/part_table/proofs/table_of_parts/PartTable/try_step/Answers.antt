use Rattle.part_table.proofs.table_of_parts.PartTable.try_step.Goals as goal

pub returns-clause-answers : goal.returns-clause-answers
returns-clause-answers g c = c.try_step_by.ensures.answers

pub returns-clause-cpu : goal.returns-clause-cpu
returns-clause-cpu g c = c.try_step_by.ensures.cpu

pub returns-clause-pass : goal.returns-clause-pass
returns-clause-pass g c = c.try_step_by.ensures.pass

pub returns-clause-rest : goal.returns-clause-rest
returns-clause-rest g c = c.try_step_by.ensures.rest

pub returns-clause-heard : goal.returns-clause-heard
returns-clause-heard g c = c.try_step_by.ensures.heard
